-- Offer: a leader proposes a batch for a number. It fills the number's place, and a prepare is issued.
use Rattle.std.specs.Prelude.{ℕ, ◌+◌, Bool, false, cond, not, ◌&&◌, ◌||◌, List, [], ◌∷◌, length, take, is_some, Some, None, Option, ◌==◌, nat_le, nat_lt}
use Rattle.wire.specs.declared.records.DigestValue.{DigestValue}
use Rattle.wire.specs.declared.records.Statement.{Statement}
use Rattle.wire.specs.declared.records.Sealed.{Sealed}
use Rattle.wire.specs.declared.records.Request.{Request}
use Rattle.wire.specs.declared.records.Batch.{Batch}
use Rattle.wire.specs.Values.{value_of, same_digest, request_statement}
use Rattle.wire.specs.Frames.{requests_of, stored}
use Rattle.digest.specs.Batched.{batch_digest, bucket_of}
use Rattle.table.specs.declared.records.Place.{Place}
use Rattle.table.specs.Window.{place_at, fill_at}
use Rattle.window.specs.Clients.{admits}
use Rattle.protocol.specs.declared.records.Core.{Core}
use Rattle.protocol.specs.declared.refusal.Refusal.{Refusal}
use Rattle.protocol.specs.declared.refusal.Refusal.TheVariants.{Room, Signer, Kind, Epoch, Number, Authority, Seal, Standing, Batch as BadBatch}
use Rattle.protocol.specs.Refusals.{first_of, or_else, at_request}
use Rattle.protocol.specs.Leaders.{owns, in_bucket}
use Rattle.protocol.specs.State.{size, own, with_table, limit}
use Rattle.protocol.specs.Call.{Effect, Step, called, cramped, quiet}
use Rattle.wire.specs.declared.kinds.Kind.TheVariants.{Proposal, Prepare}
use Rattle.wire.specs.Kinds.{same_kind}

-- above the epoch's last number, if it has one
abbrev pub above_last : Option ℕ → ℕ → Bool
above_last None s = false
above_last (Some last) s = nat_lt last s

-- the number is stable or delivered, outside the epoch's numbers, without a place, or above the limit
abbrev pub not_offered : Core → ℕ → Bool
not_offered c s =
    nat_le s c.table.stable || (nat_le s c.delivered || (nat_lt s c.view.first || (above_last c.view.last s
    || (nat_lt (c.table.stable + 32) s || nat_lt limit s))))

-- the batch is too large, or is not that of the digest, or has requests and the digest 0
abbrev pub no_batch_of : (List ℕ → DigestValue) → DigestValue → List Request → Bool
no_batch_of value d rs =
    nat_lt 16 (length rs) || (not (same_digest (batch_digest value rs) d) || (nat_lt 0 (length rs) && same_digest (batch_digest value rs) (value_of 0)))

-- the same request: client and timestamp, whatever it asks for
abbrev pub same_request : Request → Request → Bool
same_request a b = a.client == b.client && a.timestamp == b.timestamp

abbrev pub has_request : List Request → Request → Bool
has_request [] r = false
has_request (x ∷ xs) r = same_request x r || has_request xs r

abbrev pub in_batch : Option Batch → Request → Bool
in_batch None r = false
in_batch (Some b) r = has_request (requests_of b) r

-- in a known batch of a number above d, of the places from number s on
abbrev pub known_from : ℕ → ℕ → Request → List Place → Bool
known_from s d r [] = false
known_from s d r (p ∷ ps) = (nat_lt d s && in_batch p.batch r) || known_from (s + 1) d r ps

module _ (accepts : Statement → ℕ → Bool) (value : List ℕ → DigestValue) where
  -- a request, after those before it in the batch, is bad: no such client, marked or outside its window, twice in this batch or in a
  -- known one that is not delivered, in the bucket of another leader, or its seal is false
  abbrev pub bad_request : Core → ℕ → List Request → Request → Bool
  bad_request c s earlier r =
      not (admits c.windows r.client r.timestamp)
      || (has_request earlier r
      || (known_from (c.table.stable + 1) c.delivered r c.table.places
      || (not (in_bucket (size c) c.view s (bucket_of value r.client r.timestamp))
      || not (accepts (request_statement r) r.seal))))

  -- the index of the first bad request of all, of those from the i-th on
  abbrev pub first_bad : Core → ℕ → List Request → ℕ → List Request → Option ℕ
  first_bad c s all i [] = None
  first_bad c s all i (r ∷ rs) = cond (bad_request c s (take i all) r) (Some i) (first_bad c s all (i + 1) rs)

  abbrev pub offer_checks : Core → List Sealed → Sealed → List Request → List (Bool × Refusal)
  offer_checks c outbox p rs =
      let st = p.statement in
      (cramped outbox, Room)
      ∷ (not (same_kind st.kind Proposal) || not (st.held == 0), Kind)
      ∷ (nat_le (size c) st.signer, Signer)
      ∷ (c.view.changing || not (st.epoch == c.view.epoch), Epoch)
      ∷ (not_offered c st.number, Number)
      ∷ (is_some (place_at c.table st.number).proposal, Standing)
      ∷ (not (owns (size c) c.view st.number st.signer), Authority)
      ∷ (no_batch_of value st.digest rs, BadBatch)
      ∷ (not (accepts st p.seal), Seal)
      ∷ []

  abbrev pub offer_refusal : Core → List Sealed → Sealed → List Request → Option Refusal
  offer_refusal c outbox p rs = or_else (first_of (offer_checks c outbox p rs)) (at_request (first_bad c p.statement.number rs 0 rs))

-- what a controller says when it accepts a proposal
abbrev pub prepare_of : ℕ → ℕ → ℕ → DigestValue → Statement
prepare_of signer epoch number digest = record { kind = Prepare; signer = signer; epoch = epoch; number = number; held = 0; digest = digest }

abbrev pub offer_effect : {X : Type 0} → Core → X → Sealed → List Request → Effect X
offer_effect c x p rs =
    let st = p.statement in
    quiet (with_table c (fill_at c.table st.number st.digest (Some (stored rs)))) x
    (prepare_of (own c) c.view.epoch st.number st.digest ∷ []) []

module _ (accepts : Statement → ℕ → Bool) (value : List ℕ → DigestValue) where
  abbrev pub offered : {X : Type 0} → Core → X → List Sealed → Sealed → List Request → Step X
  offered c x outbox p rs = called c x outbox (offer_refusal accepts value c outbox p rs) (offer_effect c x p rs)
