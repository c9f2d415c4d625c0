-- Degrees as they are written in words; 46 is the point, 45 the minus sign.
use Rattle.std.specs.Prelude.{ℕ, ◌+◌, ◌-◌, ◌*◌, cond, ◌&&◌, List, length, take, drop, ℤ, pos, ◌-ℤ◌, Some, None, Option, ◌==◌, nat_le, nat_lt, slice_index}
use Rattle.text.specs.Numbers.{number_in as limited}

-- a number below 2 ^ 32, with a digit at least
abbrev pub number_in : List ℕ → Option ℕ
number_in w = limited 4294967295 w

abbrev pub hundredths : Option ℕ → Option ℕ → Option ℕ
hundredths None part = None
hundredths (Some whole) None = None
hundredths (Some whole) (Some part) = Some (whole * 100 + part)

-- a number, a point and two digits
unfoldable pub hundredths_in : List ℕ → Option ℕ
hundredths_in w =
    cond (nat_lt (length w) 3) None
    (cond (slice_index w (length w - 3) == 46)
    (hundredths (number_in (take (length w - 3) w)) (number_in (drop (length w - 2) w)))
    None)

abbrev pub below_zero : Option ℕ → Option ℤ
below_zero None = None
below_zero (Some n) = cond (nat_le n 32768) (Some (pos 0 -ℤ pos n)) None

abbrev pub from_zero : Option ℕ → Option ℤ
from_zero None = None
from_zero (Some n) = cond (nat_le n 32767) (Some (pos n)) None

-- hundredths of a degree that fit 16 bits, with a minus sign in front or with none
abbrev pub degrees_in : List ℕ → Option ℤ
degrees_in w =
    cond (nat_lt 0 (length w) && slice_index w 0 == 45) (below_zero (hundredths_in (drop 1 w))) (from_zero (hundredths_in w))
