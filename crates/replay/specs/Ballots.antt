-- How many have voted.
use Rattle.std.specs.Prelude.{ℕ, List, is_some, count_by, Option}
use Rattle.table.specs.declared.records.Ballot.{Ballot}
use Rattle.table.specs.declared.records.Ballots.{Ballots}

abbrev pub cast : List (Option Ballot) → ℕ
cast slots = count_by is_some slots

abbrev pub voters : Ballots → ℕ
voters b = cast b.of
