-- How many controllers a house may have, how many of them may lie, and how many are a quorum.
-- Only this file has the formulas: all else rests on the record Sizes.
use Rattle.std.specs.Prelude.{◌≡◌, ℕ, ◌+◌, ◌-◌, ◌*◌, ◌/◌, ◌<◌, ◌≤◌, Bool, true, not, ◌||◌, ◌==◌, nat_le}

-- the sizes that a house may have
unfoldable pub allowed : ℕ → Bool
allowed n = n == 4 || (n == 7 || (n == 10 || (n == 13 || n == 16)))

-- so many of n controllers may lie
unfoldable pub faults : ℕ → ℕ
faults n = (n - 1) / 3

-- so many different controllers are a quorum
unfoldable pub quorum : ℕ → ℕ
quorum n = 2 * faults n + 1

-- no house has n controllers, or it has none with that number
abbrev pub no_house : ℕ → ℕ → Bool
no_house n own = not (allowed n) || nat_le n own

-- what counting rests on
pub record Sizes (n : ℕ) : Type 0 where
  pub few : n ≤ 16
  pub some : 0 < quorum n
  pub within : quorum n ≤ n
  pub outnumbers : faults n < quorum n
  pub wide : n + faults n + 1 ≤ 2 * quorum n

-- every house of an allowed size has them
abbrev pub SizesHold : Type 0
SizesHold = (n : ℕ) → allowed n ≡ true → Sizes n
