-- Numbers as they are written in words.
use Rattle.std.specs.Prelude.{ℕ, List, Option}
use Rattle.text.specs.Numbers.{number_in as limited}

-- a number below 2 ^ 64, with a digit at least
abbrev pub number_in : List ℕ → Option ℕ
number_in w = limited 18446744073709551615 w
