-- Valves are the same where their books are: what a ghost field states has one proof at most.
use Rattle.std.proofs.Common.{◌≡◌, ℕ, ◌+◌, ◌≤◌, length, get_or, sum}
use mathlib.Core.HLevel.{is_prop→PathP, Π_prop}
use native.Mathlib.Bridge.{le_prop}
use native.Mathlib.Nat.{ℕ_set}
use Rattle.valves.specs.declared.state.Valves.{Valves}

pub same_valves : (v w : Valves) → v.book ≡ w.book → v ≡ w
same_valves v w e = λ i. record {
  book = e i;
  long = is_prop→PathP (λ j. length (e j).accounts ≡ 32) (λ j. ℕ_set _ _) v.long w.long i;
  whole = is_prop→PathP (λ j. sum (e j).accounts + (e j).plant ≡ 320000) (λ j. ℕ_set _ _) v.whole w.whole i;
  within = is_prop→PathP (λ j. (valve : ℕ) → get_or (e j).openings valve 0 ≤ 1000) (λ j. Π_prop (λ valve. le_prop)) v.within w.within i;
}
