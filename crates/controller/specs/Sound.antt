-- What every controller keeps true, so that no number overflows and what it tells when it gives up fits its outbox.
use Rattle.std.specs.Prelude.{ℕ, ◌≤◌, List, Some, None, Option, slice_index_or}
use Rattle.table.specs.declared.records.Certificate.{Certificate}
use Rattle.table.specs.declared.records.Place.{Place}
use Rattle.table.specs.Places.{past}
use Rattle.protocol.specs.declared.records.Core.{Core}

-- how many prepares a certificate has
abbrev pub held_votes : Option Certificate → ℕ
held_votes None = 0
held_votes (Some k) = k.prepares.count

-- no certificate has more votes than the largest quorum
abbrev pub Few : List Place → Type 0
Few ps = (i : ℕ) → held_votes (slice_index_or ps i past).certificate ≤ 11

-- the stable number is within the limit, what is delivered at most 32 above the limit, and no quorum has more than 11 votes
abbrev pub Sound : Core → Type 0
Sound c = (c.table.stable ≤ 1000000000000) × (c.delivered ≤ 1000000000032) × (c.table.proof.count ≤ 11) × Few c.table.places
