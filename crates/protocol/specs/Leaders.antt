-- Who leads: leader sets as numbers whose bit i stands for controller i, owners of numbers and buckets, primaries.
use Rattle.std.specs.Prelude.{ℕ, ◌+◌, ◌-◌, ◌/◌, ◌%◌, ◌^◌, max, Bool, ◌&&◌, ◌==◌}
use Rattle.quorum.specs.Sets.{count}
use Rattle.protocol.specs.declared.records.View.{View}

abbrev pub member : ℕ → ℕ → Bool
member leaders i = leaders / 2 ^ i % 2 == 1

-- the position of i among the members, ascending from 0: how many are below it
abbrev pub position : ℕ → ℕ → ℕ
position leaders i = count (member leaders) i

-- how many lead, of n; where none does, which never happens, one is counted
abbrev pub leader_count : ℕ → ℕ → ℕ
leader_count n leaders = max (count (member leaders) n) 1

-- the position that owns a number: it goes round from the epoch's first
abbrev pub owner_position : ℕ → View → ℕ → ℕ
owner_position n v s = (s - v.first) % leader_count n v.leaders

abbrev pub owns : ℕ → View → ℕ → ℕ → Bool
owns n v s i = member v.leaders i && position v.leaders i == owner_position n v s

-- the position that a bucket belongs to at a number: it moves on with the epoch, and every 256 numbers
abbrev pub bucket_position : ℕ → View → ℕ → ℕ → ℕ
bucket_position n v s bucket = (bucket + v.epoch + (s - v.first) / 256) % leader_count n v.leaders

abbrev pub in_bucket : ℕ → View → ℕ → ℕ → Bool
in_bucket n v s bucket = bucket_position n v s bucket == owner_position n v s

-- the primary of an epoch
abbrev pub primary : ℕ → ℕ → ℕ
primary n epoch = epoch % n

-- all of n controllers, and no other
abbrev pub everyone : ℕ → ℕ
everyone n = 2 ^ n - 1

abbrev pub within : ℕ → ℕ → Bool
within n leaders = leaders / 2 ^ n == 0
