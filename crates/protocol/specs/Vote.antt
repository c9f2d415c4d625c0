-- Vote: a prepare, a commit or a checkpoint of a controller.
use Rattle.std.specs.Prelude.{ℕ, ◌%◌, Bool, cond, not, ◌&&◌, ◌||◌, List, [], ◌∷◌, Option, ◌==◌, nat_le, nat_lt}
use Rattle.wire.specs.declared.records.DigestValue.{DigestValue}
use Rattle.wire.specs.declared.records.Statement.{Statement}
use Rattle.wire.specs.declared.records.Sealed.{Sealed}
use Rattle.table.specs.declared.records.Ballot.{Ballot}
use Rattle.table.specs.declared.records.Table.{Table}
use Rattle.table.specs.Ballots.{has_ballot, backers, listed, just_backed}
use Rattle.table.specs.Places.{proposes}
use Rattle.table.specs.Window.{in_window, place_at, prepare_at, commit_at, certify_at, row_at, checkpoint_at, move_to}
use Rattle.protocol.specs.declared.records.Core.{Core}
use Rattle.protocol.specs.declared.refusal.Refusal.{Refusal}
use Rattle.protocol.specs.declared.refusal.Refusal.TheVariants.{Room, Signer, Kind, Epoch, Number, Seal, Standing, Unproposed}
use Rattle.protocol.specs.Refusals.{first_of}
use Rattle.protocol.specs.State.{size, own, enough, with_table, limit}
use Rattle.protocol.specs.Delivery.{begin}
use Rattle.protocol.specs.Call.{Effect, Step, called, cramped, delivering}
use Rattle.wire.specs.declared.kinds.Kind.TheVariants.{Prepare, Commit, Checkpoint}
use Rattle.wire.specs.declared.kinds.Kind.{Kind as StatementKind}
use Rattle.wire.specs.Kinds.{same_kind}

-- prepares and commits are of an epoch, checkpoints are not
abbrev pub of_epoch : StatementKind → Bool
of_epoch kind = same_kind kind Prepare || same_kind kind Commit

abbrev pub no_vote_kind : Statement → Bool
no_vote_kind st = not (of_epoch st.kind || same_kind st.kind Checkpoint) || (not (st.held == 0) || (same_kind st.kind Checkpoint && not (st.epoch == 0)))

-- the number has no place, or it is a checkpoint's and above the limit or no multiple of 16
abbrev pub not_voted : Core → Statement → Bool
not_voted c st =
    not (in_window c.table st.number) || (same_kind st.kind Checkpoint && (nat_lt limit st.number || not (st.number % 16 == 0)))

-- this signer's vote of this kind stands
abbrev pub vote_stands : Table → Statement → Bool
vote_stands t st =
    cond (same_kind st.kind Prepare) (has_ballot (place_at t st.number).prepares st.signer)
    (cond (same_kind st.kind Commit) (has_ballot (place_at t st.number).commits st.signer) (has_ballot (row_at t st.number) st.signer))

abbrev pub vote_checks : (Statement → ℕ → Bool) → Core → List Sealed → Sealed → List (Bool × Refusal)
vote_checks accepts c outbox v =
    let st = v.statement in
    (cramped outbox, Room)
    ∷ (no_vote_kind st, Kind)
    ∷ (nat_le (size c) st.signer, Signer)
    ∷ (of_epoch st.kind && (c.view.changing || not (st.epoch == c.view.epoch)), Epoch)
    ∷ (not_voted c st, Number)
    ∷ (of_epoch st.kind && not (proposes (place_at c.table st.number).proposal st.digest), Unproposed)
    ∷ (vote_stands c.table st, Standing)
    ∷ (not (accepts st v.seal), Seal)
    ∷ []

abbrev pub vote_refusal : (Statement → ℕ → Bool) → Core → List Sealed → Sealed → Option Refusal
vote_refusal accepts c outbox v = first_of (vote_checks accepts c outbox v)

abbrev pub ballot_of : Sealed → Ballot
ballot_of v = record { digest = v.statement.digest; seal = v.seal }

-- what a controller says when a quorum has prepared
abbrev pub commit_of : ℕ → ℕ → ℕ → DigestValue → Statement
commit_of signer epoch number digest = record { kind = Commit; signer = signer; epoch = epoch; number = number; held = 0; digest = digest }

-- the q-th prepare makes the certificate, and a commit is issued
abbrev pub with_prepare : Core → Sealed → Table
with_prepare c v = prepare_at c.table v.statement.number v.statement.signer (ballot_of v)

abbrev pub now_prepared : Core → Sealed → Bool
now_prepared c v =
    just_backed (size c) (enough c) v.statement.digest (place_at (with_prepare c v) v.statement.number).prepares

abbrev pub prepare_table : Core → Sealed → Table
prepare_table c v =
    cond (now_prepared c v) (certify_at (with_prepare c v) v.statement.number c.view.epoch v.statement.digest) (with_prepare c v)

abbrev pub prepare_issued : Core → Sealed → List Statement
prepare_issued c v = cond (now_prepared c v) (commit_of (own c) c.view.epoch v.statement.number v.statement.digest ∷ []) []

abbrev pub commit_table : Core → Sealed → Table
commit_table c v = commit_at c.table v.statement.number v.statement.signer (ballot_of v)

-- the q-th equal checkpoint makes its number stable
abbrev pub with_checkpoint : Core → Sealed → Table
with_checkpoint c v = checkpoint_at c.table v.statement.number v.statement.signer (ballot_of v)

abbrev pub checkpoint_table : Core → Sealed → Table
checkpoint_table c v =
    let row = row_at (with_checkpoint c v) v.statement.number in
    cond (just_backed (size c) (enough c) v.statement.digest row)
    (move_to (with_checkpoint c v) v.statement.number (listed (backers v.statement.digest row)))
    (with_checkpoint c v)

abbrev pub vote_table : Core → Sealed → Table
vote_table c v =
    cond (same_kind v.statement.kind Prepare) (prepare_table c v) (cond (same_kind v.statement.kind Commit) (commit_table c v) (checkpoint_table c v))

abbrev pub vote_issued : Core → Sealed → List Statement
vote_issued c v = cond (same_kind v.statement.kind Prepare) (prepare_issued c v) []

module _ {X : Type 0} (next : X → ℕ → ℕ → ℕ → X) (marked : X → ℕ) where
  abbrev pub vote_effect : Core → X → Sealed → Effect X
  vote_effect c x v =
      let after = with_table c (vote_table c v) in
      delivering next marked after (begin next marked after x (vote_issued c v))

  abbrev pub voted : (Statement → ℕ → Bool) → Core → X → List Sealed → Sealed → Step X
  voted accepts c x outbox v = called c x outbox (vote_refusal accepts c outbox v) (vote_effect c x v)
