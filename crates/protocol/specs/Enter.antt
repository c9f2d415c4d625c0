-- Enter: a primary begins an epoch with a dossier, which says what of the earlier epochs must be kept.
use Rattle.std.specs.Prelude.{◌≡◌, ℕ, zero, suc, ◌+◌, ◌≤◌, Bool, false, cond, not, ◌||◌, List, [], ◌∷◌, map, Some, None, Ok, Err, Option, Result, ◌==◌, nat_le, nat_lt}
use Rattle.wire.specs.declared.records.DigestValue.{DigestValue}
use Rattle.wire.specs.declared.records.Statement.{Statement}
use Rattle.wire.specs.declared.records.Sealed.{Sealed}
use Rattle.wire.specs.Values.{number_of}
use Rattle.table.specs.declared.records.Vote.{Vote}
use Rattle.table.specs.declared.records.Votes.{Votes}
use Rattle.table.specs.Ballots.{listed}
use Rattle.table.specs.Window.{move_to, enter_all}
use Rattle.dossier.specs.declared.parts.Terms.{Terms}
use Rattle.dossier.specs.declared.parts.Opened.{Opened}
use Rattle.dossier.specs.Walk.{walked, chosen, checkpoint_group}
use Rattle.protocol.specs.declared.records.View.{View}
use Rattle.protocol.specs.declared.records.Core.{Core}
use Rattle.protocol.specs.declared.refusal.Refusal.{Refusal}
use Rattle.protocol.specs.declared.refusal.Refusal.TheVariants.{Room, Signer, Kind, Epoch, Number, Authority, Seal, Record}
use Rattle.protocol.specs.Refusals.{first_of, or_else}
use Rattle.protocol.specs.Leaders.{member, within, primary}
use Rattle.protocol.specs.State.{size, own, enough, with_view}
use Rattle.protocol.specs.Offer.{prepare_of}
use Rattle.protocol.specs.Call.{Effect, Step, called, cramped, quiet}
use Rattle.wire.specs.declared.kinds.Kind.TheVariants.{New}
use Rattle.wire.specs.Kinds.{same_kind}

-- a changing controller takes its own epoch and higher ones, another only higher ones
abbrev pub stale : View → ℕ → Bool
stale v epoch = cond v.changing (nat_lt epoch v.epoch) (nat_le epoch v.epoch)

-- the signer is not the primary, or the set lacks it or names no controller
abbrev pub no_set_of : ℕ → Statement → Bool
no_set_of n st =
    let leaders = number_of st.digest in
    not (st.signer == primary n st.epoch) || (not (member leaders st.signer) || not (within n leaders))

abbrev pub terms_of : Core → Statement → Terms
terms_of c st = record { threshold = record { n = size c; q = enough c }; epoch = st.epoch }

module _ (accepts : Statement → ℕ → Bool) where
  abbrev pub opened : Core → Sealed → List Sealed → Result Opened ℕ
  opened c new records = walked accepts (terms_of c new.statement) records

  abbrev pub enter_checks : Core → List Sealed → Sealed → List (Bool × Refusal)
  enter_checks c outbox new =
      let st = new.statement in
      (cramped outbox, Room)
      ∷ (not (same_kind st.kind New) || not (st.held == 0), Kind)
      ∷ (nat_le (size c) st.signer, Signer)
      ∷ (stale c.view st.epoch, Epoch)
      ∷ (no_set_of (size c) st, Authority)
      ∷ (not (accepts st new.seal), Seal)
      ∷ []

  abbrev pub enter_refusal : Core → List Sealed → Sealed → Result Opened ℕ → Option Refusal
  enter_refusal c outbox new walk =
      or_else (first_of (enter_checks c outbox new))
      (elim walk [ Err i ↦ Some (Record i) | Ok o ↦ cond (new.statement.number == o.base) None (Some Number) ])

-- checkpoints as votes
abbrev pub as_vote : Sealed → Vote
as_vote r = record { signer = r.statement.signer; digest = r.statement.digest; seal = r.seal }

abbrev pub base_proof : ℕ → List Sealed → Opened → Votes
base_proof q records o = listed (map as_vote (checkpoint_group q records o))

-- what is chosen for k numbers from s on
unfoldable pub choices : Opened → ℕ → ℕ → List (Option DigestValue)
choices o s zero = []
choices o s (suc k) = chosen o s ∷ choices o (s + 1) k

-- a prepare for each number that has a choice, from s on
abbrev pub prepares_chosen : ℕ → ℕ → ℕ → List (Option DigestValue) → List Statement
prepares_chosen signer epoch s [] = []
prepares_chosen signer epoch s (None ∷ ds) = prepares_chosen signer epoch (s + 1) ds
prepares_chosen signer epoch s (Some d ∷ ds) = prepare_of signer epoch s d ∷ prepares_chosen signer epoch (s + 1) ds

abbrev pub entered_view : Statement → Opened → View
entered_view st o = record { epoch = st.epoch; changing = false; leaders = number_of st.digest; first = o.base + 1; last = Some (o.base + 32) }

-- the base becomes stable if it is higher; the places are emptied but for their certificates, and the chosen numbers above the stable
-- one are filled and prepared
abbrev pub enter_effect : {X : Type 0} → Core → X → Sealed → List Sealed → Opened → Effect X
enter_effect c x new records o =
    let t = move_to c.table o.base (base_proof (enough c) records o) in
    let ds = choices o (t.stable + 1) 32 in
    quiet (with_view c (entered_view new.statement o) (enter_all t ds)) x (prepares_chosen (own c) new.statement.epoch (t.stable + 1) ds) []

abbrev pub enter_walked : {X : Type 0} → Core → X → Sealed → List Sealed → Result Opened ℕ → Effect X
enter_walked c x new records (Ok o) = enter_effect c x new records o
enter_walked c x new records (Err i) = quiet c x [] []

module _ (accepts : Statement → ℕ → Bool) where
  abbrev pub entered : {X : Type 0} → Core → X → List Sealed → Sealed → List Sealed → Step X
  entered c x outbox new records =
      let walk = opened accepts c new records in
      called c x outbox (enter_refusal accepts c outbox new walk) (enter_walked c x new records walk)

-- what the beginning of an epoch is refused for before its dossier is looked at
abbrev pub new_refusal : (Statement → ℕ → Bool) → Core → List Sealed → Sealed → Option Refusal
new_refusal accepts c outbox new =
    let st = new.statement in
    first_of (
    (cramped outbox, Room)
    ∷ (not (same_kind st.kind New) || not (st.held == 0), Kind)
    ∷ (nat_le (size c) st.signer, Signer)
    ∷ (stale c.view st.epoch, Epoch)
    ∷ (no_set_of (size c) st, Authority)
    ∷ (not (accepts st new.seal), Seal)
    ∷ [])

-- what judging a new epoch answers: what its dossier says, of a base within the limit, if nothing refuses it, or the refusal
abbrev pub Judged : (Statement → ℕ → Bool) → Core → List Sealed → Sealed → List Sealed → Result Opened Refusal → Type 0
Judged accepts c outbox new records (Ok o) =
    (opened accepts c new records ≡ Ok o) × (None ≡ enter_refusal accepts c outbox new (opened accepts c new records)) × (o.base ≤ 1000000000000)
Judged accepts c outbox new records (Err e) = Some e ≡ enter_refusal accepts c outbox new (opened accepts c new records)
