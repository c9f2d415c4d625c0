-- One turn of a delivery.
use Rattle.std.proofs.Common.{◌≡◌, ℕ, true, false}
use Rattle.std.proofs.lemmas.Bool.{cond-true, cond-false}
use Rattle.wire.specs.declared.records.Request.{Request}
use Rattle.window.specs.Clients.{admits}
use Rattle.window.specs.Deliveries.{Course, applies, passes, taken}

module _ {X : Type 0} (next : X → ℕ → ℕ → ℕ → X) (s : Course X) (q : Request) where
  pub taken_yes : admits s.windows q.client q.timestamp ≡ true → taken next s q ≡ applies next s q
  taken_yes is = cond-true (admits s.windows q.client q.timestamp) (applies next s q) (passes next s q) is

  pub taken_no : admits s.windows q.client q.timestamp ≡ false → taken next s q ≡ passes next s q
  taken_no is = cond-false (admits s.windows q.client q.timestamp) (applies next s q) (passes next s q) is
