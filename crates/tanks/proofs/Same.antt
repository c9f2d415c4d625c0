-- Tanks are the same where their farms are: what a ghost field states has one proof at most.
use Rattle.std.proofs.Common.{◌≡◌, ℕ, ◌≤◌, false, length}
use mathlib.Core.Bool.{Bool-set}
use mathlib.Core.HLevel.{is_prop→PathP, Π_prop}
use native.Mathlib.Bridge.{le_prop}
use native.Mathlib.Nat.{ℕ_set}
use Rattle.tanks.specs.declared.state.Tanks.{Tanks}
use Rattle.tanks.specs.Farm.{tank_in, out_of_range}

pub same_tanks : (t u : Tanks) → t.farm ≡ u.farm → t ≡ u
same_tanks t u e = λ i. record {
  farm = e i;
  long = is_prop→PathP (λ j. length (e j).tanks ≡ 64) (λ j. ℕ_set _ _) t.long u.long i;
  level = is_prop→PathP (λ j. (tank : ℕ) → (tank_in (e j) tank).litres ≤ 100000) (λ j. Π_prop (λ tank. le_prop)) t.level u.level i;
  warmth = is_prop→PathP (λ j. (tank : ℕ) → out_of_range (tank_in (e j) tank).set_point ≡ false) (λ j. Π_prop (λ tank. Bool-set _ _)) t.warmth u.warmth i;
}
