-- Supply: the batch of a number whose proposal came without it.
use Rattle.std.specs.Prelude.{ℕ, Bool, not, ◌||◌, List, [], ◌∷◌, is_some, Option}
use Rattle.std.specs.Option.{unwrap_or}
use Rattle.wire.specs.declared.records.DigestValue.{DigestValue}
use Rattle.wire.specs.declared.records.Sealed.{Sealed}
use Rattle.wire.specs.declared.records.Request.{Request}
use Rattle.wire.specs.Values.{value_of}
use Rattle.wire.specs.Frames.{stored}
use Rattle.table.specs.Window.{in_window, place_at, supply_at}
use Rattle.protocol.specs.declared.records.Core.{Core}
use Rattle.protocol.specs.declared.refusal.Refusal.{Refusal}
use Rattle.protocol.specs.declared.refusal.Refusal.TheVariants.{Room, Number, Unproposed, Batch as BadBatch}
use Rattle.protocol.specs.Refusals.{first_of}
use Rattle.protocol.specs.State.{with_table}
use Rattle.protocol.specs.Delivery.{begin}
use Rattle.protocol.specs.Call.{Effect, Step, called, cramped, delivering}
use Rattle.protocol.specs.Offer.{no_batch_of}

abbrev pub supply_checks : (List ℕ → DigestValue) → Core → List Sealed → ℕ → List Request → List (Bool × Refusal)
supply_checks value c outbox s rs =
    let p = place_at c.table s in
    (cramped outbox, Room)
    ∷ (not (in_window c.table s), Number)
    ∷ (not (is_some p.proposal) || is_some p.batch, Unproposed)
    ∷ (no_batch_of value (unwrap_or p.proposal (value_of 0)) rs, BadBatch)
    ∷ []

abbrev pub supply_refusal : (List ℕ → DigestValue) → Core → List Sealed → ℕ → List Request → Option Refusal
supply_refusal value c outbox s rs = first_of (supply_checks value c outbox s rs)

module _ {X : Type 0} (next : X → ℕ → ℕ → ℕ → X) (marked : X → ℕ) where
  abbrev pub supply_effect : Core → X → ℕ → List Request → Effect X
  supply_effect c x s rs =
      let after = with_table c (supply_at c.table s (stored rs)) in
      delivering next marked after (begin next marked after x [])

  abbrev pub supplied : (List ℕ → DigestValue) → Core → X → List Sealed → ℕ → List Request → Step X
  supplied value c x outbox s rs = called c x outbox (supply_refusal value c outbox s rs) (supply_effect c x s rs)
