-- Windows are the same where their spans are.
use Rattle.std.proofs.Common.{◌≡◌, ◌-◌, ◌%◌, ◌^◌, ◌<◌, min}
use mathlib.Core.HLevel.{is_prop→PathP}
use native.Mathlib.Nat.{ℕ_set}
use native.Mathlib.Bridge.{le_prop}
use Rattle.window.specs.declared.window.Window.{Window}

pub same_window : (v w : Window) → v.span ≡ w.span → v ≡ w
same_window v w e = λ i. record {
  span = e i;
  low = is_prop→PathP (λ j. (e j).marks % 2 ≡ 0) (λ j. ℕ_set _ _) v.low w.low i;
  fits = is_prop→PathP (λ j. (e j).marks < 2 ^ min 64 (4294967295 - (e j).base)) (λ j. le_prop) v.fits w.fits i;
}
