-- What holds of the valves whatever the orders are.
use Rattle.std.specs.Prelude.{◌≡◌, ℕ, ◌+◌, ◌≤◌, sum, ◌≢◌, slice_index}
use Rattle.application.specs.Codes.{done}
use Rattle.valves.specs.declared.state.Valves.{Valves}
use Rattle.valves.specs.Valves.{after, answer}

-- the accounts and the plant add to 320,000
abbrev pub Whole : Type 0
Whole = (v : Valves) → sum v.book.accounts + v.book.plant ≡ 320000

-- no valve is open wider than 1,000
abbrev pub Within : Type 0
Within = (v : Valves) (valve : ℕ) → slice_index v.book.openings valve ≤ 1000

-- an order that is not done changes nothing
abbrev pub Unchanged : Type 0
Unchanged = (v : Valves) (client timestamp payload : ℕ) →
    (answer v client timestamp payload ≢ done) → after v client timestamp payload ≡ v
