-- A window as a base and a number of 64 bits: bit k − 1 is the mark of timestamp base + k.
use Rattle.std.specs.Prelude.{◌≡◌, ℕ, zero, suc, ◌+◌, ◌-◌, ◌/◌, ◌%◌, ◌^◌, ◌<◌, min, Bool, cond, ◌&&◌, ◌||◌, ◌==◌, bit_or, nat_le, nat_lt}
use Rattle.window.specs.declared.span.Span.{Span}

-- 1 where a timestamp above the base is marked, 0 where it is not
abbrev pub bit : Span → ℕ → ℕ
bit s t = s.marks / 2 ^ (t - s.base - 1) % 2

-- one of base + 1 to base + 64 and below 2 ^ 32, and not marked
abbrev pub free : Span → ℕ → Bool
free s t = nat_lt s.base t && (nat_le (t - s.base) 64 && (nat_le t 4294967295 && bit s t == 0))

-- up to the base, or marked
abbrev pub seen : Span → ℕ → Bool
seen s t = nat_le t s.base || bit s t == 1

-- the mark of t is set
abbrev pub put : Span → ℕ → Span
put s t = record { base = s.base; marks = bit_or s.marks (2 ^ (t - s.base - 1)) }

-- the base rises by one, and the lowest mark goes
abbrev pub up : Span → Span
up s = record { base = s.base + 1; marks = s.marks / 2 }

-- while the lowest mark is set, the base rises by one, n times at most
unfoldable pub rise : ℕ → Span → Span
rise zero s = s
rise (suc n) s = cond (s.marks % 2 == 1) (rise n (up s)) s

-- a free timestamp is marked and the base rises; another changes nothing
abbrev pub marked : Span → ℕ → Span
marked s t = cond (free s t) (rise 64 (put s t)) s

-- the lowest mark is not set
abbrev pub Low : Span → Type 0
Low s = s.marks % 2 ≡ 0

-- every mark is of a timestamp below 2 ^ 32
abbrev pub Fitted : Span → Type 0
Fitted s = s.marks < 2 ^ min 64 (4294967295 - s.base)
