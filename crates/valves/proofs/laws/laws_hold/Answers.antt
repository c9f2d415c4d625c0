use Rattle.std.proofs.Common.{◌≡◌, ℕ, eqb, Some, None, Option, refl}
use Rattle.std.proofs.lemmas.Bool.{cond-false, ne_eqb}
use Rattle.valves.specs.declared.book.Book.{Book}
use Rattle.valves.specs.declared.order.ValveOrder.{ValveOrder}
use Rattle.valves.specs.declared.order.ValveOrder.TheVariants.{Open, Pay}
use Rattle.valves.specs.Book.{code_of, code_of_open, code_of_pay, opened, paid, carried_out}
use Rattle.valves.specs.Orders.{order_of}
use Rattle.valves.specs.Valves.{new_valves, after, answer}
use Rattle.valves.proofs.Same.{same_valves}
use Rattle.valves.proofs.laws.laws_hold.Goals as goal

kept : (b : Book) (client : ℕ) (o : Option ValveOrder) → (code_of b client o ≡ 0 → ⊥) → carried_out b client o ≡ b
kept b client None h = refl
kept b client (Some (Open valve opening)) h = cond-false (eqb (code_of_open b client valve opening) 0) (opened b client valve opening) b (ne_eqb _ _ h)
kept b client (Some (Pay to units)) h = cond-false (eqb (code_of_pay b client to units) 0) (paid b client to units) b (ne_eqb _ _ h)

pub returns : goal.returns
unfolding new_valves after answer
returns c = record {
  whole = λ v. v.whole;
  within = λ v valve. v.within valve;
  unchanged = λ v client timestamp payload h. same_valves _ _ (kept v.book client (order_of payload) h);
  worked = record { first = refl; second = refl; account = refl; plant = refl; opening = refl; mark = refl };
}
