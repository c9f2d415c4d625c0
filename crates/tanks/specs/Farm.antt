-- What an order does to the tanks: a code, and the tanks after it.
use Rattle.std.specs.Prelude.{ℕ, ◌+◌, ◌-◌, Bool, cond, ◌||◌, ℤ, pos, negsuc, Some, None, Ok, Err, Option, Result, ◌==◌, int_lt, nat_lt, slice_index_or, slice_set}
use Rattle.application.specs.declared.codes.Reject.{Reject}
use Rattle.application.specs.declared.codes.Reject.TheVariants.{BadPlace}
use Rattle.application.specs.Codes.{done, unknown, bad_place, bad_value, bad_amount}
use Rattle.tanks.specs.declared.tank.Tank.{Tank}
use Rattle.tanks.specs.declared.farm.Farm.{Farm}
use Rattle.tanks.specs.declared.order.TankOrder.{TankOrder}
use Rattle.tanks.specs.declared.order.TankOrder.TheVariants.{SetPoint, SetLitres, Move}

-- past the last tank
abbrev pub no_tank : Tank
no_tank = record { litres = 0; set_point = pos 0 }

abbrev pub tank_in : Farm → ℕ → Tank
tank_in f tank = slice_index_or f.tanks tank no_tank

-- what can be read of the farm
abbrev pub read_tank : Farm → ℕ → Option Tank
read_tank f tank = cond (nat_lt 63 tank) None (Some (tank_in f tank))

-- the tank of an order, if there are such a client and such a tank
abbrev pub held : Farm → ℕ → ℕ → Result Tank Reject
held f client tank = cond (nat_lt 63 tank || nat_lt 31 client) (Err BadPlace) (Ok (tank_in f tank))

-- a set point is below -500 or above 3,000 (negsuc 499 is -500)
abbrev pub out_of_range : ℤ → Bool
out_of_range z = int_lt z (negsuc 499) || int_lt (pos 3000) z

abbrev pub code_of_set_point : ℕ → ℕ → ℤ → ℕ
code_of_set_point client tank to =
    cond (nat_lt 63 tank || nat_lt 31 client) bad_place
    (cond (out_of_range to) bad_value
    done)

abbrev pub with_set_point : Farm → ℕ → ℤ → Farm
with_set_point f tank to = record { tanks = slice_set f.tanks tank (record { litres = (tank_in f tank).litres; set_point = to }) }

abbrev pub code_of_set_litres : ℕ → ℕ → ℕ → ℕ
code_of_set_litres client tank litres =
    cond (nat_lt 63 tank || nat_lt 31 client) bad_place
    (cond (nat_lt 100000 litres) bad_value
    done)

abbrev pub with_litres : Farm → ℕ → ℕ → Farm
with_litres f tank litres = record { tanks = slice_set f.tanks tank (record { litres = litres; set_point = (tank_in f tank).set_point }) }

abbrev pub code_of_move : Farm → ℕ → ℕ → ℕ → ℕ → ℕ
code_of_move f client from to litres =
    cond (nat_lt 63 from || (nat_lt 63 to || (nat_lt 31 client || from == to))) bad_place
    (cond (nat_lt (tank_in f from).litres litres || nat_lt 100000 ((tank_in f to).litres + litres)) bad_amount
    done)

abbrev pub moved : Farm → ℕ → ℕ → ℕ → Farm
moved f from to litres = with_litres (with_litres f from ((tank_in f from).litres - litres)) to ((tank_in f to).litres + litres)

-- the code of an order
abbrev pub code_of : Farm → ℕ → Option TankOrder → ℕ
code_of f client None = unknown
code_of f client (Some (SetPoint tank to)) = code_of_set_point client tank to
code_of f client (Some (SetLitres tank litres)) = code_of_set_litres client tank litres
code_of f client (Some (Move from to litres)) = code_of_move f client from to litres

-- the tanks after an order: any code but 0 changes nothing
abbrev pub if_done : ℕ → Farm → Farm → Farm
if_done code new old = cond (code == done) new old

abbrev pub carried_out : Farm → ℕ → Option TankOrder → Farm
carried_out f client None = f
carried_out f client (Some (SetPoint tank to)) = if_done (code_of_set_point client tank to) (with_set_point f tank to) f
carried_out f client (Some (SetLitres tank litres)) = if_done (code_of_set_litres client tank litres) (with_litres f tank litres) f
carried_out f client (Some (Move from to litres)) = if_done (code_of_move f client from to litres) (moved f from to litres) f
