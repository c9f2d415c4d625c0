-- The dossier that is put together from the partings of q controllers, by ascending signers.
use Rattle.std.specs.Prelude.{ℕ, ◌+◌, cond, List, [], ◌++◌, nat_le}
use Rattle.std.specs.List.{range_with_len, flat_map}
use Rattle.wire.specs.declared.records.Sealed.{Sealed}
use Rattle.host.specs.Partings.{one_at, stable_in, held_in, claimed_epoch, checkpoints_in, prepares_in, highest}

-- h, the base: the largest stable number
abbrev pub base_in : List (List Sealed) → ℕ
base_in ps = stable_in (highest stable_in ps)

-- for one number: each parting's held statement, and the prepares of the highest claim from the first who made it
unfoldable pub at_number : List (List Sealed) → ℕ → List Sealed
at_number ps s = flat_map (held_in s) ps ++ prepares_in s (highest (claimed_epoch s) ps)

-- for h + 1 to h + 32; nothing for a base above the largest number, with which no dossier is accepted
unfoldable pub at_numbers : List (List Sealed) → ℕ → List Sealed
at_numbers ps h = cond (nat_le h 1000000000000) (flat_map (at_number ps) (range_with_len (h + 1) 32)) []

-- the stable statements, the checkpoints of h from the first whose stable number it is, and the 32 numbers
abbrev pub assembled : List (List Sealed) → List Sealed
assembled ps = flat_map (one_at 0) ps ++ (checkpoints_in (highest stable_in ps) ++ at_numbers ps (base_in ps))
