-- Numbers as bytes, the most significant byte first.
use Rattle.std.specs.Prelude.{ℕ, ◌+◌, ◌*◌, ◌/◌, ◌%◌, ◌^◌, Bool, true, ◌&&◌, List, [], ◌∷◌, ◌==◌}

-- the eight bytes of a payload, b0 the most significant
pub record Bytes : Type 0 where
  pub b0 : ℕ
  pub b1 : ℕ
  pub b2 : ℕ
  pub b3 : ℕ
  pub b4 : ℕ
  pub b5 : ℕ
  pub b6 : ℕ
  pub b7 : ℕ

abbrev pub eight : ℕ → ℕ → ℕ → ℕ → ℕ → ℕ → ℕ → ℕ → Bytes
eight b0 b1 b2 b3 b4 b5 b6 b7 = record { b0 = b0; b1 = b1; b2 = b2; b3 = b3; b4 = b4; b5 = b5; b6 = b6; b7 = b7 }

abbrev pub bytes_of : ℕ → Bytes
bytes_of payload = record {
  b0 = payload / 2 ^ 56 % 256;
  b1 = payload / 2 ^ 48 % 256;
  b2 = payload / 2 ^ 40 % 256;
  b3 = payload / 2 ^ 32 % 256;
  b4 = payload / 2 ^ 24 % 256;
  b5 = payload / 2 ^ 16 % 256;
  b6 = payload / 2 ^ 8 % 256;
  b7 = payload % 256;
}

-- and the payload that has these bytes
abbrev pub payload_of_bytes : Bytes → ℕ
payload_of_bytes b =
    b.b0 * 2 ^ 56 + b.b1 * 2 ^ 48 + b.b2 * 2 ^ 40 + b.b3 * 2 ^ 32 + b.b4 * 2 ^ 24 + b.b5 * 2 ^ 16 + b.b6 * 2 ^ 8 + b.b7

-- bytes that an order does not use are 0
abbrev pub zeros : List ℕ → Bool
zeros [] = true
zeros (b ∷ bs) = b == 0 && zeros bs

-- the number of two bytes, and of four
abbrev pub two : ℕ → ℕ → ℕ
two a b = a * 256 + b

abbrev pub four : ℕ → ℕ → ℕ → ℕ → ℕ
four a b c d = a * 2 ^ 24 + b * 2 ^ 16 + c * 256 + d

-- the two bytes of a number, and the four
abbrev pub bytes2 : ℕ → List ℕ
bytes2 n = (n / 256 % 256) ∷ (n % 256) ∷ []

abbrev pub bytes4 : ℕ → List ℕ
bytes4 n = (n / 2 ^ 24 % 256) ∷ (n / 2 ^ 16 % 256) ∷ (n / 256 % 256) ∷ (n % 256) ∷ []
