-- A place that is changed at a number.
use Rattle.std.proofs.Common.{◌≡◌, ℕ, ◌-◌, true, false, set, sym, ap, ◌∙◌}
use Rattle.std.proofs.lemmas.Bool.{cond-true, cond-false}
use Rattle.table.specs.declared.records.Place.{Place}
use Rattle.table.specs.declared.records.Table.{Table}
use Rattle.table.specs.Window.{in_window, with_place}

module _ (t : Table) (s : ℕ) (p : Place) where
  pub changed_inside : (i : ℕ) → in_window t s ≡ true → i ≡ s - t.stable - 1 → record { stable = t.stable; proof = t.proof; rows = t.rows; places = set t.places i p } ≡ with_place t s p
  changed_inside i is at =
      ap (λ (j : ℕ). record { stable = t.stable; proof = t.proof; rows = t.rows; places = set t.places j p }) at
      ∙ sym (cond-true (in_window t s) _ t is)

  pub kept_outside : in_window t s ≡ false → t ≡ with_place t s p
  kept_outside is = sym (cond-false (in_window t s) _ t is)
