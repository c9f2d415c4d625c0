-- Numbers as bytes, big-endian.
use Rattle.std.specs.Prelude.{ℕ, ◌+◌, ◌*◌, ◌/◌, ◌%◌, ◌<◌, List, [], ◌∷◌, ◌++◌, length, take, drop, slice_index}

-- the four and the eight bytes of a number
abbrev pub bytes4 : ℕ → List ℕ
bytes4 n = (n / 16777216 % 256) ∷ (n / 65536 % 256) ∷ (n / 256 % 256) ∷ (n % 256) ∷ []

abbrev pub bytes8 : ℕ → List ℕ
bytes8 n =
    (n / 72057594037927936 % 256) ∷ (n / 281474976710656 % 256) ∷ (n / 1099511627776 % 256) ∷ (n / 4294967296 % 256)
    ∷ (n / 16777216 % 256) ∷ (n / 65536 % 256) ∷ (n / 256 % 256) ∷ (n % 256) ∷ []

-- the number in the four and in the eight bytes from i on
abbrev pub four_at : List ℕ → ℕ → ℕ
four_at bs i = slice_index bs i * 16777216 + slice_index bs (i + 1) * 65536 + slice_index bs (i + 2) * 256 + slice_index bs (i + 3)

abbrev pub eight_at : List ℕ → ℕ → ℕ
eight_at bs i =
    slice_index bs i * 72057594037927936 + slice_index bs (i + 1) * 281474976710656 + slice_index bs (i + 2) * 1099511627776
    + slice_index bs (i + 3) * 4294967296 + slice_index bs (i + 4) * 16777216 + slice_index bs (i + 5) * 65536 + slice_index bs (i + 6) * 256
    + slice_index bs (i + 7)

-- a list of bytes
abbrev pub Bytes : List ℕ → Type 0
Bytes bs = (i : ℕ) → slice_index bs i < 256

-- xs with ys written over what stands from `at` on
abbrev pub put_over : List ℕ → ℕ → List ℕ → List ℕ
put_over xs at ys = take at xs ++ (ys ++ drop (at + length ys) xs)
