-- Kinds and their bytes.
use Rattle.std.specs.Prelude.{ℕ, ◌+◌, Bool, true, false, cond, List, ◌==◌, codes}
use Rattle.wire.specs.declared.kinds.Kind.{Kind}
use Rattle.wire.specs.declared.kinds.Kind.TheVariants.{Request, Proposal, Prepare, Commit, Checkpoint, Stable, Held, New, Unknown}

-- the kind that a byte stands for
abbrev pub kind_of : ℕ → Kind
kind_of b =
    cond (b == 1) Request (cond (b == 2) Proposal (cond (b == 3) Prepare (cond (b == 4) Commit (cond (b == 5) Checkpoint
    (cond (b == 6) Stable (cond (b == 7) Held (cond (b == 8) New (Unknown b))))))))

-- the byte that stands for a kind
abbrev pub byte_of : Kind → ℕ
byte_of Request = 1
byte_of Proposal = 2
byte_of Prepare = 3
byte_of Commit = 4
byte_of Checkpoint = 5
byte_of Stable = 6
byte_of Held = 7
byte_of New = 8
byte_of (Unknown b) = b

-- a number for each kind, by which two are told apart; an unknown kind is none of the others, whatever its byte
abbrev pub place_of : Kind → ℕ
place_of Request = 1
place_of Proposal = 2
place_of Prepare = 3
place_of Commit = 4
place_of Checkpoint = 5
place_of Stable = 6
place_of Held = 7
place_of New = 8
place_of (Unknown b) = 9 + b

abbrev pub same_kind : Kind → Kind → Bool
same_kind a b = place_of a == place_of b

-- no statement has such a kind
abbrev pub unknown : Kind → Bool
unknown Request = false
unknown Proposal = false
unknown Prepare = false
unknown Commit = false
unknown Checkpoint = false
unknown Stable = false
unknown Held = false
unknown New = false
unknown (Unknown b) = true

-- what a person reads of a kind
abbrev pub name_of : Kind → List ℕ
name_of Request = codes "request"
name_of Proposal = codes "proposal"
name_of Prepare = codes "prepare"
name_of Commit = codes "commit"
name_of Checkpoint = codes "checkpoint"
name_of Stable = codes "stable"
name_of Held = codes "held"
name_of New = codes "new"
name_of (Unknown b) = codes "unknown"

-- what controllers issue from the state that they keep: prepares, commits, checkpoints, stable and held statements
abbrev pub of_controllers : Kind → Bool
of_controllers Request = false
of_controllers Proposal = false
of_controllers Prepare = true
of_controllers Commit = true
of_controllers Checkpoint = true
of_controllers Stable = true
of_controllers Held = true
of_controllers New = false
of_controllers (Unknown b) = false
