-- Numbers as they are written in words; 48 to 57 are the digits.
use Rattle.std.specs.Prelude.{◌≡◌, ℕ, ◌+◌, ◌-◌, ◌*◌, cond, ◌||◌, List, [], ◌∷◌, length, Some, None, Option, Result, MatchBool, ◌==◌, nat_lt}
use Rattle.std.specs.Char.{is_ascii_digit}
use Rattle.std.specs.List.{list_all}
use Rattle.std.specs.Result.{result_ok}

-- the number in a word of digits alone is what is parsed from it
abbrev pub IsNumberIn : {T E : Type 0} → (List ℕ → Result T E → Type 0) → List ℕ → Option T → Type 0
IsNumberIn {T} {E} gives word r = MatchBool (list_all is_ascii_digit word) ((p : Result T E) × gives word p × (r ≡ result_ok p)) (r ≡ None)

-- n with one digit more
abbrev pub with_digit : ℕ → ℕ → ℕ
with_digit n b = n * 10 + (b - 48)

-- the number that begins with n and goes on with these digits, if it is no more than the limit
abbrev pub digits_from : ℕ → ℕ → List ℕ → Option ℕ
digits_from limit n [] = Some n
digits_from limit n (b ∷ bs) =
    cond (nat_lt b 48 || nat_lt 57 b) None
    (cond (nat_lt limit (with_digit n b)) None
    (digits_from limit (with_digit n b) bs))

-- a number has a digit at least
unfoldable pub number_in : ℕ → List ℕ → Option ℕ
number_in limit w = cond (length w == 0) None (digits_from limit 0 w)
