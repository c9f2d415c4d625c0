-- Client 2 opens valve 7 to 250, and then to 100: it pays 250 and 150 to the plant.
use Rattle.std.specs.Prelude.{◌≡◌, Some}
use Rattle.application.specs.Codes.{done}
use Rattle.valves.specs.declared.order.ValveOrder.TheVariants.{Open}
use Rattle.valves.specs.declared.state.Valves.{Valves}
use Rattle.valves.specs.Orders.{payload_of}
use Rattle.valves.specs.Valves.{new_valves, after, answer, mark_of, account_at, plant_of, opening_at}

abbrev pub to_250 : Valves
to_250 = after new_valves 2 1 (payload_of (Open 7 250))

abbrev pub to_100 : Valves
to_100 = after to_250 2 2 (payload_of (Open 7 100))

pub record OpenedTwice : Type 0 where
  pub first : answer new_valves 2 1 (payload_of (Open 7 250)) ≡ done
  pub second : answer to_250 2 2 (payload_of (Open 7 100)) ≡ done
  pub account : account_at to_100 2 ≡ Some 9600
  pub plant : plant_of to_100 ≡ 400
  pub opening : opening_at to_100 7 ≡ Some 100
  pub mark : mark_of to_100 ≡ 0x7b99f5f867f0900a
