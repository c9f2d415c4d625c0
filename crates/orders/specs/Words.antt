-- Orders by their words: each word that is none is a fault of its own, the first one counts.
use Rattle.std.specs.Prelude.{ℕ, ℤ, Some, None, Ok, Err, Option, Result}
use Rattle.tanks.specs.declared.order.TankOrder.{TankOrder}
use Rattle.tanks.specs.declared.order.TankOrder.TheVariants.{SetPoint, SetLitres, Move}
use Rattle.valves.specs.declared.order.ValveOrder.{ValveOrder}
use Rattle.valves.specs.declared.order.ValveOrder.TheVariants.{Open, Pay}
use Rattle.orders.specs.declared.line.Wrong.{Wrong}
use Rattle.orders.specs.declared.line.Wrong.TheVariants.{Place, Amount, Degrees}

abbrev pub set_words : Option ℕ → Option ℤ → Result TankOrder Wrong
set_words None degrees = Err Place
set_words (Some tank) None = Err Degrees
set_words (Some tank) (Some to) = Ok (SetPoint tank to)

abbrev pub fill_words : Option ℕ → Option ℕ → Result TankOrder Wrong
fill_words None litres = Err Place
fill_words (Some tank) None = Err Amount
fill_words (Some tank) (Some litres) = Ok (SetLitres tank litres)

abbrev pub move_words : Option ℕ → Option ℕ → Option ℕ → Result TankOrder Wrong
move_words None to litres = Err Place
move_words (Some from) None litres = Err Place
move_words (Some from) (Some to) None = Err Amount
move_words (Some from) (Some to) (Some litres) = Ok (Move from to litres)

abbrev pub open_words : Option ℕ → Option ℕ → Result ValveOrder Wrong
open_words None opening = Err Place
open_words (Some valve) None = Err Amount
open_words (Some valve) (Some opening) = Ok (Open valve opening)

abbrev pub pay_words : Option ℕ → Option ℕ → Result ValveOrder Wrong
pay_words None units = Err Place
pay_words (Some to) None = Err Amount
pay_words (Some to) (Some units) = Ok (Pay to units)
