-- The tanks as an application.
use Rattle.std.specs.Prelude.{◌≡◌, ℕ, ◌≤◌, false, cond, replicate, pos, Some, None, Option, nat_lt, refl}
use Rattle.std.proofs.Common.{lit≤}
use Rattle.application.proofs.Each.{each_replicate}
use Rattle.digest.specs.Fnv.{fnv1a}
use Rattle.tanks.specs.declared.state.Tanks.{Tanks}
use Rattle.tanks.specs.declared.tank.Tank.{Tank}
use Rattle.tanks.specs.declared.farm.Farm.{Farm}
use Rattle.tanks.specs.Farm.{no_tank, tank_in, out_of_range, code_of, carried_out}
use Rattle.tanks.specs.Keeps.{Sound, keeps}
use Rattle.tanks.specs.Mark.{farm_bytes}
use Rattle.tanks.specs.Orders.{order_of}

-- at the start each tank is empty and set to 20 degrees
abbrev pub first_tank : Tank
first_tank = record { litres = 0; set_point = pos 2000 }

abbrev pub first_farm : Farm
first_farm = record { tanks = replicate 64 first_tank }

abbrev pub sound : (t : Tanks) → Sound t.farm
sound t = record { long = t.long; level = t.level; warmth = t.warmth }

abbrev pub tanks_of : (f : Farm) → Sound f → Tanks
tanks_of f h = record { farm = f; long = h.long; level = h.level; warmth = h.warmth }

unfoldable pub new_tanks : Tanks
new_tanks =
    tanks_of first_farm
    (record {
      long = refl;
      level = each_replicate (λ t. t.litres ≤ 100000) 64 first_tank no_tank (lit≤ tt) (lit≤ tt);
      warmth = each_replicate (λ t. out_of_range t.set_point ≡ false) 64 first_tank no_tank refl refl;
    })

-- the tanks after an order of a client
unfoldable pub after : Tanks → ℕ → ℕ → ℕ → Tanks
after t client timestamp payload =
    tanks_of (carried_out t.farm client (order_of payload)) (keeps t.farm client (order_of payload) (sound t))

unfoldable pub answer : Tanks → ℕ → ℕ → ℕ → ℕ
answer t client timestamp payload = code_of t.farm client (order_of payload)

abbrev pub mark_of : Tanks → ℕ
mark_of t = fnv1a (farm_bytes t.farm)

-- what can be read of the tanks
abbrev pub tank_at : Tanks → ℕ → Option Tank
tank_at t tank = cond (nat_lt 63 tank) None (Some (tank_in t.farm tank))
