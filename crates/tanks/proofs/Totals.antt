-- What a move takes from one tank it adds to the other.
use Rattle.std.proofs.Common.{◌≡◌, ℕ, ◌+◌, ◌-◌, ◌<◌, ◌≤◌, false, ◌||◌, eqb, ltb, length, Some, sym, refl, ap, arith, length-set, get_or-set_other}
use Rattle.std.proofs.lemmas.List.Sums.{sum_by-set}
use Rattle.std.proofs.lemmas.Bool.{cond_both, eqb-true, eqb-false, ltb-false, or_parts}
use Rattle.application.proofs.Passed.{passed}
use Rattle.tanks.specs.declared.farm.Farm.{Farm}
use Rattle.tanks.specs.declared.order.TankOrder.TheVariants.{Move}
use Rattle.tanks.specs.Farm.{no_tank, tank_in, with_litres, code_of_move, moved, carried_out}
use Rattle.tanks.specs.Laws.{total}

-- new litres in one tank
with_litres_total : (f : Farm) (tank litres : ℕ) → tank < length f.tanks → total (with_litres f tank litres) + (tank_in f tank).litres ≡ total f + litres
with_litres_total f tank litres h = sum_by-set (λ t. t.litres) f.tanks tank (record { litres = litres; set_point = (tank_in f tank).set_point }) no_tank h

done_total : (f : Farm) (client from to litres : ℕ) → length f.tanks ≡ 64 → code_of_move f client from to litres ≡ 0 → total (moved f from to litres) ≡ total f
done_total f client from to litres long e =
    let source : ℕ = (tank_in f from).litres in
    let target : ℕ = (tank_in f to).litres in
    let a = passed (ltb 63 from || (ltb 63 to || (ltb 31 client || eqb from to))) false (ltb source litres || ltb 100000 (target + litres)) e in
    let p = or_parts (ltb 63 from) (ltb 63 to || (ltb 31 client || eqb from to)) a.0 in
    let q = or_parts (ltb 63 to) (ltb 31 client || eqb from to) p.1 in
    let ne : (from ≡ to) → ⊥ = eqb-false from to (or_parts (ltb 31 client) (eqb from to) q.1).1 in
    let enough : litres ≤ source = ltb-false source litres (or_parts (ltb source litres) (ltb 100000 (target + litres)) a.2).0 in
    let here : from < length f.tanks = omega (arith, long, ltb-false 63 from p.0) in
    let g : Farm = with_litres f from (source - litres) in
    let same : length g.tanks ≡ length f.tanks = length-set f.tanks from _ in
    let there : to < length g.tanks = omega (arith, long, same, ltb-false 63 to q.0) in
    let other : (tank_in g to).litres ≡ target = ap (λ t. t.litres) (get_or-set_other f.tanks from to _ no_tank (λ e. ne (sym e))) in
    omega (arith, other, enough, with_litres_total f from (source - litres) here, with_litres_total g to (target + litres) there)

pub move_total : (f : Farm) (client from to litres : ℕ) → length f.tanks ≡ 64 → total (carried_out f client (Some (Move from to litres))) ≡ total f
move_total f client from to litres long =
    cond_both (eqb (code_of_move f client from to litres) 0) _ _ (λ g. total g ≡ total f) (λ e. done_total f client from to litres long (eqb-true _ 0 e)) (λ e. refl)
