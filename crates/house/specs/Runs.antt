-- Runs of a house: what its honest controllers are called with, and what honest clients ask for, in order of time. A run is a list with
-- the newest first, so that what is earlier is a tail.
use Rattle.std.specs.Prelude.{◌≡◌, ℕ, ◌+◌, ◌≤◌, Bool, true, false, cond, ◌⊎◌, List, [], ◌∷◌, ◌++◌, map, length, is_ok, Ok, Err, Result, ◌==◌}
use Rattle.std.specs.List.{AllByRecursion}
use Rattle.wire.specs.declared.records.DigestValue.{DigestValue}
use Rattle.wire.specs.declared.records.Statement.{Statement}
use Rattle.wire.specs.declared.records.Sealed.{Sealed}
use Rattle.wire.specs.declared.records.Request.{Request}
use Rattle.wire.specs.Values.{value_of, request_statement}
use Rattle.digest.specs.Batched.{batch_digest}
use Rattle.quorum.specs.declared.house.House.{House}
use Rattle.protocol.specs.declared.records.Core.{Core}
use Rattle.protocol.specs.declared.records.Answer.{Answer}
use Rattle.protocol.specs.declared.refusal.Refusal.{Refusal}
use Rattle.protocol.specs.State.{new_core}
use Rattle.protocol.specs.Call.{Step}
use Rattle.protocol.specs.Offer.{offered}
use Rattle.protocol.specs.Vote.{voted}
use Rattle.protocol.specs.Supply.{supplied}
use Rattle.protocol.specs.Prove.{proved}
use Rattle.protocol.specs.Change.{gave_up, took_turn}
use Rattle.protocol.specs.Enter.{entered}
use Rattle.wire.specs.declared.kinds.Kind.TheVariants.{Request as RequestKind}
use Rattle.wire.specs.Kinds.{of_controllers}

-- a seal checker, by its test
abbrev pub Checker : Type 0
Checker = Statement → ℕ → Bool

-- a call with its arguments, which may be anything; where seals are asked for it is handed a checker
pub data Call : Type 0 where
  offer : Checker → Sealed → List Request → Call
  vote : Checker → Sealed → Call
  supply : ℕ → List Request → Call
  prove : Checker → ℕ → List Request → List Sealed → Call
  give_up : Call
  enter : Checker → Sealed → List Sealed → Call
  turn : Call

-- a call at a controller with a lent outbox, or an honest client asks for an order
pub data Event : Type 0 where
  at : ℕ → List Sealed → Call → Event
  asks : ℕ → ℕ → ℕ → Event

-- what a client says by asking: client, timestamp, payload
abbrev pub asked : ℕ → ℕ → ℕ → Statement
asked client timestamp payload = record { kind = RequestKind; signer = client; epoch = 0; number = timestamp; held = 0; digest = value_of payload }

abbrev pub Has : {A : Type 0} → List A → A → Type 0
Has [] x = ⊥
Has (y ∷ ys) x = (y ≡ x) ⊎ Has ys x

-- the client asked for it in the run
abbrev pub Asked : List Event → Statement → Type 0
Asked [] st = ⊥
Asked (at k outbox c ∷ older) st = Asked older st
Asked (asks client timestamp payload ∷ older) st = (asked client timestamp payload ≡ st) ⊎ Asked older st

-- the sealed statements that a call is handed
abbrev pub as_sealed : Request → Sealed
as_sealed r = record { statement = request_statement r; seal = r.seal }

abbrev pub handed : Call → List Sealed
handed (offer accepts p rs) = p ∷ map as_sealed rs
handed (vote accepts v) = v ∷ []
handed (supply s rs) = []
handed (prove accepts s rs list) = list
handed give_up = []
handed (enter accepts new records) = new ∷ records
handed turn = []

-- its checker says yes
abbrev pub accepts_in : Call → Sealed → Bool
accepts_in (offer accepts p rs) r = accepts r.statement r.seal
accepts_in (vote accepts v) r = accepts r.statement r.seal
accepts_in (supply s rs) r = false
accepts_in (prove accepts s rs list) r = accepts r.statement r.seal
accepts_in give_up r = false
accepts_in (enter accepts new records) r = accepts r.statement r.seal
accepts_in turn r = false

-- the batches that a call is handed
abbrev pub batches_in : Call → List (List Request)
batches_in (offer accepts p rs) = rs ∷ []
batches_in (vote accepts v) = []
batches_in (supply s rs) = rs ∷ []
batches_in (prove accepts s rs list) = rs ∷ []
batches_in give_up = []
batches_in (enter accepts new records) = []
batches_in turn = []

-- some honest controller was handed the batch in the run
abbrev pub Handed : (ℕ → Bool) → List Event → List Request → Type 0
Handed honest [] rs = ⊥
Handed honest (at k outbox c ∷ older) rs = ((honest k ≡ true) × Has (batches_in c) rs) ⊎ Handed honest older rs
Handed honest (asks client timestamp payload ∷ older) rs = Handed honest older rs

-- a controller with its application, all that it has issued, and its log: the batches that it has delivered, the first first
pub record Node (X : Type 0) : Type 0 where
  pub core : Core
  pub app : X
  pub issued : List Statement
  pub log : List (List Request)

-- how many batches an answer counts; a refusal counts none
abbrev pub batches_counted : Result Answer Refusal → ℕ
batches_counted (Ok a) = a.batches
batches_counted (Err r) = 0

module _ {X : Type 0} (value : List ℕ → DigestValue) (next : X → ℕ → ℕ → ℕ → X) (marked : X → ℕ) where
  -- what a call does, by its definition
  abbrev pub stepped : Core → X → List Sealed → Call → Step X
  stepped c x outbox (offer accepts p rs) = offered accepts value c x outbox p rs
  stepped c x outbox (vote accepts v) = voted next marked accepts c x outbox v
  stepped c x outbox (supply s rs) = supplied next marked value c x outbox s rs
  stepped c x outbox (prove accepts s rs list) = proved next marked accepts value c x outbox s rs list
  stepped c x outbox give_up = gave_up c x outbox
  stepped c x outbox (enter accepts new records) = entered accepts c x outbox new records
  stepped c x outbox turn = took_turn c x outbox

  unfoldable pub after : Node X → List Sealed → Call → Node X
  after k outbox c =
      let s = stepped k.core k.app outbox c in
      record { core = s.core; app = s.app; issued = s.issued ++ k.issued; log = k.log ++ s.batches }

  -- every controller starts new, with the same application state
  module _ (start : X) (houses : ℕ → House) where
    abbrev pub new_node : ℕ → Node X
    new_node k = record { core = new_core (houses k); app = start; issued = []; log = [] }

    -- the controller k after a run: each call starts in the state that the last one at it left
    unfoldable pub node : ℕ → List Event → Node X
    node k [] = new_node k
    node k (at i outbox c ∷ older) = cond (i == k) (after (node k older) outbox c) (node k older)
    node k (asks client timestamp payload ∷ older) = node k older

    -- how far it has delivered: the sum of its answers' counts of batches
    unfoldable pub delivered_upto : ℕ → List Event → ℕ
    delivered_upto k [] = 0
    delivered_upto k (at i outbox c ∷ older) =
        cond (i == k)
        (delivered_upto k older + batches_counted (stepped (node k older).core (node k older).app outbox c).result)
        (delivered_upto k older)
    delivered_upto k (asks client timestamp payload ∷ older) = delivered_upto k older

    -- the call at k would be accepted after the run
    abbrev pub accepted : ℕ → List Sealed → Call → List Event → Bool
    accepted k outbox c older = is_ok (stepped (node k older).core (node k older).app outbox c).result

    -- a statement that the checker accepted stands for something: a request was asked for, and a prepare, commit, checkpoint, stable or
    -- held statement was issued, where its signer is honest
    pub record Vouched (honest honest_client : ℕ → Bool) (older : List Event) (st : Statement) : Type 0 where
      pub request : st.kind ≡ RequestKind → honest_client st.signer ≡ true → Asked older st
      pub vote : of_controllers st.kind ≡ true → honest st.signer ≡ true → Has (node st.signer older).issued st

    -- premise one: in each call that an honest controller accepts, what its checker accepts of an honest party was issued earlier
    abbrev pub SealsHold : (ℕ → Bool) → (ℕ → Bool) → List Event → Type 0
    SealsHold honest honest_client [] = Unit {0}
    SealsHold honest honest_client (at k outbox c ∷ older) =
        (honest k ≡ true → accepted k outbox c older ≡ true
        → AllByRecursion (λ r. accepts_in c r ≡ true → Vouched honest honest_client older r.statement) (handed c))
        × SealsHold honest honest_client older
    SealsHold honest honest_client (asks client timestamp payload ∷ older) = SealsHold honest honest_client older

-- premise two: no two different batches of at most 16 requests handed to honest controllers share a digest
abbrev pub DigestsDiffer : (List ℕ → DigestValue) → (ℕ → Bool) → List Event → Type 0
DigestsDiffer value honest run =
    (a b : List Request) → Handed honest run a → Handed honest run b → length a ≤ 16 → length b ≤ 16
    → batch_digest value a ≡ batch_digest value b → a ≡ b

-- an earlier moment of a run: what the run was then
abbrev pub Moment : List Event → List Event → Type 0
Moment then [] = then ≡ []
Moment then (e ∷ older) = (then ≡ e ∷ older) ⊎ Moment then older
