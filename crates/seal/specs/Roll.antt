-- When a roll lists a statement under a seal.
use Rattle.std.specs.Prelude.{◌≡◌, ℕ, ◌<◌, Bool, false, ◌&&◌, ◌||◌, List, [], ◌∷◌, length, Decides, ◌==◌, slice_index_or}
use Rattle.wire.specs.declared.records.Statement.{Statement}
use Rattle.wire.specs.declared.records.Sealed.{Sealed}
use Rattle.seal.specs.Records.{same_statement, none}

-- the entry is that statement under that seal
abbrev pub matches : Sealed → Statement → ℕ → Bool
matches entry st seal = entry.seal == seal && same_statement entry.statement st

-- one of the entries is
abbrev pub listed : List Sealed → Statement → ℕ → Bool
listed [] st seal = false
listed (entry ∷ rest) st seal = matches entry st seal || listed rest st seal

-- a record stands somewhere in a list
abbrev pub Member : List Sealed → Sealed → Type 0
Member entries s = (k : ℕ) × (k < length entries) × (slice_index_or entries k none ≡ s)

-- to be listed is to stand in the list
abbrev pub Membership : Type 0
Membership =
    (entries : List Sealed) (st : Statement) (seal : ℕ)
    → Decides (listed entries st seal) (Member entries (record { statement = st; seal = seal }))
