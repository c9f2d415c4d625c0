-- A parting: what one controller sent on giving up, sealed. In order: its stable statement; its held statements for the 32
-- numbers above its stable number; the evidence that it forwarded. Nothing of this is taken for granted: where a record is
-- not there, nothing (`none`) is read in its place.
use Rattle.std.specs.Prelude.{ℕ, ◌+◌, ◌-◌, Bool, cond, ◌&&◌, List, [], take, drop, fold, filter, ◌==◌, nat_le, nat_lt, slice_index_or}
use Rattle.wire.specs.Values.{same_digest}
use Rattle.wire.specs.declared.records.Statement.{Statement}
use Rattle.wire.specs.declared.records.Sealed.{Sealed}
use Rattle.seal.specs.Records.{none}
use Rattle.wire.specs.declared.kinds.Kind.TheVariants.{Prepare, Checkpoint}
use Rattle.wire.specs.Kinds.{same_kind}

-- the record at a place, if there is one
abbrev pub one_at : ℕ → List Sealed → List Sealed
one_at place rs = take 1 (drop place rs)

abbrev pub first_of : List Sealed → Statement
first_of rs = (slice_index_or rs 0 none).statement

-- S, the stable number
abbrev pub stable_in : List Sealed → ℕ
stable_in p = (first_of p).number

-- the held statement for s, if s is one of S + 1 to S + 32
abbrev pub held_in : ℕ → List Sealed → List Sealed
held_in s p = cond (nat_lt (stable_in p) s && nat_le s (stable_in p + 32)) (one_at (s - stable_in p) p) []

-- what is claimed for s: a held epoch and its digest
abbrev pub claim_in : ℕ → List Sealed → Statement
claim_in s p = first_of (held_in s p)

abbrev pub claimed_epoch : ℕ → List Sealed → ℕ
claimed_epoch s p = (claim_in s p).held

-- the checkpoints of the stable number
abbrev pub is_checkpoint : ℕ → Sealed → Bool
is_checkpoint number r = same_kind r.statement.kind Checkpoint && r.statement.number == number

abbrev pub checkpoints_in : List Sealed → List Sealed
checkpoints_in p = filter (is_checkpoint (stable_in p)) p

-- the prepares of what is claimed for s
abbrev pub is_prepare : ℕ → Statement → Sealed → Bool
is_prepare s claim r =
    let st = r.statement in
    (same_kind st.kind Prepare) && (st.epoch == claim.held && (st.number == s && same_digest st.digest claim.digest))

abbrev pub prepares_in : ℕ → List Sealed → List Sealed
prepares_in s p = filter (is_prepare s (claim_in s p)) p

-- of several partings the first with the highest number under a key; none (the empty parting) where all numbers are 0
abbrev pub higher : (List Sealed → ℕ) → List Sealed → List Sealed → List Sealed
higher key best p = cond (nat_lt (key best) (key p)) p best

abbrev pub highest : (List Sealed → ℕ) → List (List Sealed) → List Sealed
highest key ps = fold (higher key) [] ps
