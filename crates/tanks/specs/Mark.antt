-- The bytes of the tanks: of each in turn the litres in four bytes and the set point in two, 384 in all.
use Rattle.std.specs.Prelude.{ℕ, List, ◌++◌}
use Rattle.std.specs.List.{flat_map}
use Rattle.application.specs.Payload.{bytes2, bytes4}
use Rattle.tanks.specs.declared.tank.Tank.{Tank}
use Rattle.tanks.specs.declared.farm.Farm.{Farm}
use Rattle.tanks.specs.Orders.{unsigned}

abbrev pub tank_bytes : Tank → List ℕ
tank_bytes t = bytes4 t.litres ++ bytes2 (unsigned t.set_point)

abbrev pub farm_bytes : Farm → List ℕ
farm_bytes f = flat_map tank_bytes f.tanks
