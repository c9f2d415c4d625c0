use Rattle.std.proofs.Common.{◌≡◌, ℕ, eqb, Some, None, Option, sym, refl, subst}
use Rattle.std.proofs.lemmas.Bool.{cond-false, ne_eqb}
use Rattle.tanks.specs.declared.farm.Farm.{Farm}
use Rattle.tanks.specs.declared.order.TankOrder.{TankOrder}
use Rattle.tanks.specs.declared.order.TankOrder.TheVariants.{SetPoint, SetLitres, Move}
use Rattle.tanks.specs.Farm.{code_of, code_of_set_point, code_of_set_litres, code_of_move, with_set_point, with_litres, moved, carried_out}
use Rattle.tanks.specs.Laws.{total}
use Rattle.tanks.specs.Orders.{order_of}
use Rattle.tanks.specs.Tanks.{new_tanks, after, answer}
use Rattle.tanks.proofs.Same.{same_tanks}
use Rattle.tanks.proofs.Totals.{move_total}
use Rattle.tanks.proofs.laws.laws_hold.Goals as goal

kept : (f : Farm) (client : ℕ) (o : Option TankOrder) → (code_of f client o ≡ 0 → ⊥) → carried_out f client o ≡ f
kept f client None h = refl
kept f client (Some (SetPoint tank to)) h = cond-false (eqb (code_of_set_point client tank to) 0) (with_set_point f tank to) f (ne_eqb _ _ h)
kept f client (Some (SetLitres tank litres)) h = cond-false (eqb (code_of_set_litres client tank litres) 0) (with_litres f tank litres) f (ne_eqb _ _ h)
kept f client (Some (Move from to litres)) h = cond-false (eqb (code_of_move f client from to litres) 0) (moved f from to litres) f (ne_eqb _ _ h)

pub returns : goal.returns
unfolding new_tanks after answer
returns c = record {
  within = λ t tank. (t.level tank, t.warmth tank);
  moves = λ t client timestamp payload from to litres e.
      subst (λ o. total (carried_out t.farm client o) ≡ total t.farm) (sym e) (move_total t.farm client from to litres t.long);
  unchanged = λ t client timestamp payload h. same_tanks _ _ (kept t.farm client (order_of payload) h);
  worked = record { source = refl; target = refl; refused = refl; mark = refl };
}
