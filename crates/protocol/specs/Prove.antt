-- Prove: the batch of the next number with a quorum of commits for it. Its place in the table is neither asked nor changed.
use Rattle.std.specs.Prelude.{ℕ, ◌+◌, Bool, not, ◌||◌, List, [], ◌∷◌, Option, ◌==◌, nat_lt, slice_index_or}
use Rattle.wire.specs.declared.records.DigestValue.{DigestValue}
use Rattle.wire.specs.declared.records.Statement.{Statement}
use Rattle.wire.specs.declared.records.Sealed.{Sealed}
use Rattle.wire.specs.declared.records.Request.{Request}
use Rattle.seal.specs.Records.{none}
use Rattle.group.specs.Group.{commits_fault}
use Rattle.protocol.specs.declared.records.Core.{Core}
use Rattle.protocol.specs.declared.refusal.Refusal.{Refusal}
use Rattle.protocol.specs.declared.refusal.Refusal.TheVariants.{Room, Number, Batch as BadBatch}
use Rattle.protocol.specs.Refusals.{first_of, or_else, at_record}
use Rattle.protocol.specs.State.{size, own, enough, limit}
use Rattle.protocol.specs.Delivery.{deliver_one, begin}
use Rattle.protocol.specs.Call.{Effect, Step, called, cramped, delivering}
use Rattle.protocol.specs.Offer.{no_batch_of}

-- the digest that a list of commits is for
abbrev pub proved_digest : List Sealed → DigestValue
proved_digest list = (slice_index_or list 0 none).statement.digest

abbrev pub prove_checks : Core → List Sealed → ℕ → List (Bool × Refusal)
prove_checks c outbox s = (cramped outbox, Room) ∷ (not (s == c.delivered + 1) || nat_lt limit s, Number) ∷ []

abbrev pub proof_checks : (List ℕ → DigestValue) → List Request → List Sealed → List (Bool × Refusal)
proof_checks value rs list = (no_batch_of value (proved_digest list) rs, BadBatch) ∷ []

abbrev pub prove_refusal : (Statement → ℕ → Bool) → (List ℕ → DigestValue) → Core → List Sealed → ℕ → List Request → List Sealed → Option Refusal
prove_refusal accepts value c outbox s rs list =
    or_else (first_of (prove_checks c outbox s))
    (or_else (at_record (commits_fault accepts (size c) (enough c) s list)) (first_of (proof_checks value rs list)))

module _ {X : Type 0} (next : X → ℕ → ℕ → ℕ → X) (marked : X → ℕ) where
  abbrev pub prove_effect : Core → X → List Request → Effect X
  prove_effect c x rs = delivering next marked c (deliver_one next marked (own c) (begin next marked c x []) rs)

  abbrev pub proved : (Statement → ℕ → Bool) → (List ℕ → DigestValue) → Core → X → List Sealed → ℕ → List Request → List Sealed → Step X
  proved accepts value c x outbox s rs list = called c x outbox (prove_refusal accepts value c outbox s rs list) (prove_effect c x rs)
