-- Every order keeps what holds of the tanks; so the tanks after an order are tanks.
use Rattle.std.specs.Prelude.{◌≡◌, ℕ, ◌+◌, ◌-◌, ◌≤◌, false, ◌||◌, length, ℤ, Some, None, Option, ◌==◌, nat_lt}
use Rattle.std.proofs.Common.{◌∙◌, arith, length-set}
use Rattle.std.proofs.lemmas.Bool.{cond_both, eqb-true, ltb-false, or_parts}
use Rattle.application.proofs.Each.{each_set}
use Rattle.application.proofs.Passed.{passed}
use Rattle.tanks.specs.declared.farm.Farm.{Farm}
use Rattle.tanks.specs.declared.order.TankOrder.{TankOrder}
use Rattle.tanks.specs.declared.order.TankOrder.TheVariants.{SetPoint, SetLitres, Move}
use Rattle.tanks.specs.Farm.{no_tank, tank_in, out_of_range, code_of_set_point, with_set_point, code_of_set_litres, with_litres, code_of_move, moved, carried_out}

pub record Sound (f : Farm) : Type 0 where
  pub long : length f.tanks ≡ 64
  pub level : (tank : ℕ) → (tank_in f tank).litres ≤ 100000
  pub warmth : (tank : ℕ) → out_of_range (tank_in f tank).set_point ≡ false

-- a tank with new litres that it can hold, and one with a new set point in range
litres_keep : (f : Farm) (tank litres : ℕ) → Sound f → litres ≤ 100000 → Sound (with_litres f tank litres)
litres_keep f tank litres h le = record {
  long = length-set _ tank _ ∙ h.long;
  level = each_set (λ t. t.litres ≤ 100000) f.tanks tank _ no_tank h.level le;
  warmth = each_set (λ t. out_of_range t.set_point ≡ false) f.tanks tank _ no_tank h.warmth (h.warmth tank);
}

set_point_keeps : (f : Farm) (tank : ℕ) (to : ℤ) → Sound f → out_of_range to ≡ false → Sound (with_set_point f tank to)
set_point_keeps f tank to h e = record {
  long = length-set _ tank _ ∙ h.long;
  level = each_set (λ t. t.litres ≤ 100000) f.tanks tank _ no_tank h.level (h.level tank);
  warmth = each_set (λ t. out_of_range t.set_point ≡ false) f.tanks tank _ no_tank h.warmth e;
}

move_keeps : (f : Farm) (client from to litres : ℕ) → Sound f → code_of_move f client from to litres ≡ 0 → Sound (moved f from to litres)
move_keeps f client from to litres h e =
    let source : ℕ = (tank_in f from).litres in
    let target : ℕ = (tank_in f to).litres in
    let a = passed (nat_lt 63 from || (nat_lt 63 to || (nat_lt 31 client || from == to))) false (nat_lt source litres || nat_lt 100000 (target + litres)) e in
    let room = ltb-false 100000 (target + litres) (or_parts (nat_lt source litres) (nat_lt 100000 (target + litres)) a.2).1 in
    let one = litres_keep f from (source - litres) h (omega (arith, h.level from)) in
    litres_keep (with_litres f from (source - litres)) to (target + litres) one room

pub keeps : (f : Farm) (client : ℕ) (o : Option TankOrder) → Sound f → Sound (carried_out f client o)
keeps f client None h = h
keeps f client (Some (SetPoint tank to)) h =
    cond_both (code_of_set_point client tank to == 0) _ _ Sound
    (λ e. set_point_keeps f tank to h (passed (nat_lt 63 tank || nat_lt 31 client) (out_of_range to) false (eqb-true _ 0 e)).1) (λ e. h)
keeps f client (Some (SetLitres tank litres)) h =
    cond_both (code_of_set_litres client tank litres == 0) _ _ Sound
    (λ e. litres_keep f tank litres h (ltb-false 100000 litres (passed (nat_lt 63 tank || nat_lt 31 client) (nat_lt 100000 litres) false (eqb-true _ 0 e)).1)) (λ e. h)
keeps f client (Some (Move from to litres)) h =
    cond_both (code_of_move f client from to litres == 0) _ _ Sound
    (λ e. move_keeps f client from to litres h (eqb-true _ 0 e)) (λ e. h)
