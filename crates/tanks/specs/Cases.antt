-- Client 1 fills tank 3 with 1,000 litres, moves 400 to tank 5, and sets tank 5 to -5 degrees; it cannot move 601 more.
use Rattle.std.specs.Prelude.{◌≡◌, pos, negsuc, Some}
use Rattle.application.specs.Codes.{bad_amount}
use Rattle.tanks.specs.declared.order.TankOrder.TheVariants.{SetPoint, SetLitres, Move}
use Rattle.tanks.specs.declared.state.Tanks.{Tanks}
use Rattle.tanks.specs.Orders.{payload_of}
use Rattle.tanks.specs.Tanks.{new_tanks, after, answer, mark_of, tank_at}

abbrev pub worked : Tanks
worked =
    after (after (after new_tanks 1 1 (payload_of (SetLitres 3 1000))) 1 2 (payload_of (Move 3 5 400))) 1 3 (payload_of (SetPoint 5 (negsuc 499)))

pub record FilledAndMoved : Type 0 where
  pub source : tank_at worked 3 ≡ Some (record { litres = 600; set_point = pos 2000 })
  pub target : tank_at worked 5 ≡ Some (record { litres = 400; set_point = negsuc 499 })
  pub refused : answer worked 1 4 (payload_of (Move 3 5 601)) ≡ bad_amount
  pub mark : mark_of worked ≡ 0x8e0f0f2d48026afb
