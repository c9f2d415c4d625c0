-- The table: the places of the 32 numbers after the stable number, and how it moves on.
use Rattle.std.specs.Prelude.{ℕ, ◌+◌, ◌-◌, ◌/◌, min, Bool, cond, ◌&&◌, List, [], ◌++◌, drop, replicate, Option, nat_le, nat_lt, slice_index_or, slice_set}
use Rattle.wire.specs.declared.records.DigestValue.{DigestValue}
use Rattle.wire.specs.declared.records.Batch.{Batch}
use Rattle.table.specs.declared.records.Ballot.{Ballot}
use Rattle.table.specs.declared.records.Ballots.{Ballots}
use Rattle.table.specs.declared.records.Votes.{Votes}
use Rattle.table.specs.declared.records.Place.{Place}
use Rattle.table.specs.declared.records.Table.{Table}
use Rattle.table.specs.Ballots.{no_ballots, with_ballot, no_votes}
use Rattle.table.specs.Places.{empty_place, past, filled, supplied, prepared, committed, certified, all_entered}

unfoldable pub new_table : Table
new_table = record { stable = 0; proof = no_votes; rows = replicate 2 no_ballots; places = replicate 32 empty_place }

-- the numbers that have a place
abbrev pub in_window : Table → ℕ → Bool
in_window t s = nat_lt t.stable s && nat_le s (t.stable + 32)

abbrev pub place_at : Table → ℕ → Place
place_at t s = slice_index_or t.places (s - t.stable - 1) past

-- another place at a number; outside of the window nothing changes
abbrev pub with_place : Table → ℕ → Place → Table
with_place t s p =
    cond (in_window t s) (record { stable = t.stable; proof = t.proof; rows = t.rows; places = slice_set t.places (s - t.stable - 1) p }) t

abbrev pub fill_at : Table → ℕ → DigestValue → Option Batch → Table
fill_at t s d b = with_place t s (filled d b (place_at t s))

abbrev pub supply_at : Table → ℕ → Batch → Table
supply_at t s b = with_place t s (supplied b (place_at t s))

abbrev pub prepare_at : Table → ℕ → ℕ → Ballot → Table
prepare_at t s signer x = with_place t s (prepared signer x (place_at t s))

abbrev pub commit_at : Table → ℕ → ℕ → Ballot → Table
commit_at t s signer x = with_place t s (committed signer x (place_at t s))

abbrev pub certify_at : Table → ℕ → ℕ → DigestValue → Table
certify_at t s epoch d = with_place t s (certified epoch d (place_at t s))

-- the checkpoints for the first 16 numbers stand in row 0, those for the others in row 1
abbrev pub row_of : Table → ℕ → ℕ
row_of t s = cond (nat_le s (t.stable + 16)) 0 1

abbrev pub no_row : Ballots
no_row = record { of = [] }

abbrev pub row_at : Table → ℕ → Ballots
row_at t s = slice_index_or t.rows (row_of t s) no_row

abbrev pub checkpoint_at : Table → ℕ → ℕ → Ballot → Table
checkpoint_at t s signer x =
    record { stable = t.stable; proof = t.proof; rows = slice_set t.rows (row_of t s) (with_ballot (row_at t s) signer x); places = t.places }

-- of so many the first k go, or all, and as many empty ones come in behind
abbrev pub shifted : {X : Type 0} → ℕ → ℕ → X → List X → List X
shifted size k new xs = drop (min k size) xs ++ replicate (min k size) new

-- a higher number is stable, with the votes that made it so; all else up to it goes
abbrev pub move_to : Table → ℕ → Votes → Table
move_to t s proof =
    cond (nat_lt t.stable s)
    (record {
      stable = s;
      proof = proof;
      rows = shifted 2 ((s - t.stable) / 16) no_ballots t.rows;
      places = shifted 32 (s - t.stable) empty_place t.places;
    })
    t

-- another epoch: what is chosen for the numbers after the stable one, in their order
abbrev pub enter_all : Table → List (Option DigestValue) → Table
enter_all t chosen = record { stable = t.stable; proof = t.proof; rows = t.rows; places = all_entered 0 chosen t.places }
