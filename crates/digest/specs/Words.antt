-- Words of 32 bits and the six functions of SHA-256 on them (FIPS 180-4, 2.2.2, 3.2 and 4.1.2).
use Rattle.std.specs.Prelude.{ℕ, ◌+◌, ◌-◌, ◌*◌, ◌/◌, ◌%◌, ◌^◌, List, [], ◌∷◌, ◌++◌, length, take, drop, bit_and, bit_or, bit_xor, slice_index}

-- addition modulo 2^32 is the sum's word
abbrev pub word : ℕ → ℕ
word n = n % 2 ^ 32

-- ¬ x
abbrev pub flipped : ℕ → ℕ
flipped x = (2 ^ 32 - 1) - x

-- SHR^n x and ROTR^n x
abbrev pub shr : ℕ → ℕ → ℕ
shr n x = x / 2 ^ n

abbrev pub rotr : ℕ → ℕ → ℕ
rotr n x = bit_or (x / 2 ^ n) (x * 2 ^ (32 - n) % 2 ^ 32)

abbrev pub xor3 : ℕ → ℕ → ℕ → ℕ
xor3 x y z = bit_xor (bit_xor x y) z

-- Ch, Maj, Σ0, Σ1, σ0, σ1: equations 4.2 to 4.7
abbrev pub Ch : ℕ → ℕ → ℕ → ℕ
Ch x y z = bit_xor (bit_and x y) (bit_and (flipped x) z)

abbrev pub Maj : ℕ → ℕ → ℕ → ℕ
Maj x y z = xor3 (bit_and x y) (bit_and x z) (bit_and y z)

abbrev pub Σ0 : ℕ → ℕ
Σ0 x = xor3 (rotr 2 x) (rotr 13 x) (rotr 22 x)

abbrev pub Σ1 : ℕ → ℕ
Σ1 x = xor3 (rotr 6 x) (rotr 11 x) (rotr 25 x)

abbrev pub σ0 : ℕ → ℕ
σ0 x = xor3 (rotr 7 x) (rotr 18 x) (shr 3 x)

abbrev pub σ1 : ℕ → ℕ
σ1 x = xor3 (rotr 17 x) (rotr 19 x) (shr 10 x)

-- big-endian: the word in the four bytes from i on, and the bytes of a number of 32 or 64 bits
abbrev pub word_at : List ℕ → ℕ → ℕ
word_at bs i = slice_index bs i * 2 ^ 24 + slice_index bs (i + 1) * 2 ^ 16 + slice_index bs (i + 2) * 2 ^ 8 + slice_index bs (i + 3)

abbrev pub bytes4 : ℕ → List ℕ
bytes4 n = (n / 2 ^ 24 % 256) ∷ (n / 2 ^ 16 % 256) ∷ (n / 2 ^ 8 % 256) ∷ (n % 256) ∷ []

abbrev pub bytes8 : ℕ → List ℕ
bytes8 n =
    (n / 2 ^ 56 % 256) ∷ (n / 2 ^ 48 % 256) ∷ (n / 2 ^ 40 % 256) ∷ (n / 2 ^ 32 % 256)
    ∷ (n / 2 ^ 24 % 256) ∷ (n / 2 ^ 16 % 256) ∷ (n / 2 ^ 8 % 256) ∷ (n % 256) ∷ []

-- and the number in the eight bytes from i on
abbrev pub eight_at : List ℕ → ℕ → ℕ
eight_at bs i =
    slice_index bs i * 2 ^ 56 + slice_index bs (i + 1) * 2 ^ 48 + slice_index bs (i + 2) * 2 ^ 40 + slice_index bs (i + 3) * 2 ^ 32
    + slice_index bs (i + 4) * 2 ^ 24 + slice_index bs (i + 5) * 2 ^ 16 + slice_index bs (i + 6) * 2 ^ 8 + slice_index bs (i + 7)

-- xs with ys written over what stands from `at` on
abbrev pub put_over : List ℕ → ℕ → List ℕ → List ℕ
put_over xs at ys = take at xs ++ (ys ++ drop (at + length ys) xs)
