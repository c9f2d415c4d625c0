-- What holds of the tanks whatever the orders are.
use Rattle.std.specs.Prelude.{◌≡◌, ℕ, ◌≤◌, false, Some, sum_by, ◌≢◌}
use Rattle.application.specs.Codes.{done}
use Rattle.tanks.specs.declared.order.TankOrder.TheVariants.{Move}
use Rattle.tanks.specs.declared.state.Tanks.{Tanks}
use Rattle.tanks.specs.declared.farm.Farm.{Farm}
use Rattle.tanks.specs.Farm.{tank_in, out_of_range}
use Rattle.tanks.specs.Orders.{order_of}
use Rattle.tanks.specs.Tanks.{after, answer}

-- the litres of all tanks
abbrev pub total : Farm → ℕ
total f = sum_by (λ t. t.litres) f.tanks

-- a tank never holds more than 100,000 litres, nor has a set point out of range
abbrev pub Within : Type 0
Within = (t : Tanks) (tank : ℕ) → ((tank_in t.farm tank).litres ≤ 100000) × (out_of_range (tank_in t.farm tank).set_point ≡ false)

-- a move keeps the total, done or not
abbrev pub MovesKeep : Type 0
MovesKeep = (t : Tanks) (client timestamp payload from to litres : ℕ) →
    order_of payload ≡ Some (Move from to litres) → total (after t client timestamp payload).farm ≡ total t.farm

-- an order that is not done changes nothing
abbrev pub Unchanged : Type 0
Unchanged = (t : Tanks) (client timestamp payload : ℕ) →
    (answer t client timestamp payload ≢ done) → after t client timestamp payload ≡ t
