-- Bytes in hexadecimal: two digits for each, 0 to 9 and a to f, the higher first.
use Rattle.std.specs.Prelude.{◌≡◌, ℕ, zero, suc, ◌+◌, ◌-◌, ◌*◌, ◌/◌, ◌%◌, Bool, cond, ◌&&◌, ◌||◌, List, [], ◌∷◌, ◌++◌, length, Some, None, Ok, Err, Option, Result, ◌==◌, nat_le, slice_index}
use Rattle.text.specs.declared.fault.HexFault.{HexFault}
use Rattle.text.specs.declared.fault.HexFault.TheVariants.{Digit, Odd, Memory}

abbrev pub is_digit : ℕ → Bool
is_digit c = (nat_le 48 c && nat_le c 57) || (nat_le 97 c && nat_le c 102)

-- the value of a digit; of what is none it is some number below 16, and nobody asks
abbrev pub digit_value : ℕ → ℕ
digit_value c = cond (nat_le c 57) (c - 48) (c - 87) % 16

-- the place of the first character that is no digit
abbrev pub first_bad : ℕ → List ℕ → Option ℕ
first_bad i [] = None
first_bad i (c ∷ cs) = cond (is_digit c) (first_bad (i + 1) cs) (Some i)

abbrev pub byte_at : List ℕ → ℕ → ℕ
byte_at text i = digit_value (slice_index text (2 * i)) * 16 + digit_value (slice_index text (2 * i + 1))

-- the first n bytes
unfoldable pub bytes_of : ℕ → List ℕ → List ℕ
bytes_of zero text = []
bytes_of (suc n) text = bytes_of n text ++ byte_at text n ∷ []

abbrev pub hex_from : List ℕ → Option ℕ → Result (List ℕ) HexFault
hex_from text (Some i) = Err (Digit i)
hex_from text None = cond (length text % 2 == 0) (Ok (bytes_of (length text / 2) text)) (Err (Odd (length text)))

abbrev pub hex : List ℕ → Result (List ℕ) HexFault
hex text = hex_from text (first_bad 0 text)

-- what a decoder hands out is what the text means, unless there was no memory for it
abbrev pub Decodes : {V : Type 0} → (V → List ℕ) → Result V HexFault → Result (List ℕ) HexFault → Type 0
Decodes items (Ok v) meant = meant ≡ Ok (items v)
Decodes items (Err Memory) meant = Unit {0}
Decodes items (Err (Digit i)) meant = meant ≡ Err (Digit i)
Decodes items (Err (Odd n)) meant = meant ≡ Err (Odd n)
