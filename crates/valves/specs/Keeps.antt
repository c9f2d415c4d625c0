-- Every order keeps what holds of the valves; so the valves after an order are valves.
use Rattle.std.specs.Prelude.{◌≡◌, ℕ, ◌+◌, ◌-◌, ◌<◌, ◌≤◌, false, ◌||◌, List, length, Some, None, sum, Option, ◌==◌, nat_lt, slice_index, slice_index_or, slice_set}
use Rattle.std.proofs.Common.{◌∙◌, arith, length-set, get_or-set_other}
use Rattle.std.proofs.lemmas.List.Sums.{sum_by-set}
use Rattle.std.proofs.lemmas.Bool.{cond_both, eqb-true, eqb-false, ltb-false, or_parts}
use Rattle.application.proofs.Each.{each_set}
use Rattle.application.proofs.Passed.{passed}
use Rattle.valves.specs.declared.book.Book.{Book}
use Rattle.valves.specs.declared.order.ValveOrder.{ValveOrder}
use Rattle.valves.specs.declared.order.ValveOrder.TheVariants.{Open, Pay}
use Rattle.valves.specs.Book.{account, price, code_of_open, opened, code_of_pay, paid, carried_out}

pub record Sound (b : Book) : Type 0 where
  pub long : length b.accounts ≡ 32
  pub whole : sum b.accounts + b.plant ≡ 320000
  pub within : (valve : ℕ) → slice_index b.openings valve ≤ 1000

open_keeps : (b : Book) (client valve opening : ℕ) → Sound b → code_of_open b client valve opening ≡ 0 → Sound (opened b client valve opening)
open_keeps b client valve opening h e =
    let by : ℕ = price b valve opening in
    let a = passed (nat_lt 63 valve || nat_lt 31 client) (nat_lt 1000 opening) (nat_lt (account b client) by) e in
    let few : client < length b.accounts = omega (arith, h.long, ltb-false 31 client (or_parts (nat_lt 63 valve) (nat_lt 31 client) a.0).1) in
    let enough : by ≤ account b client = ltb-false (account b client) by a.2 in
    record {
      long = length-set _ client _ ∙ h.long;
      whole = omega (arith, h.whole, sum_by-set (λ x. x) b.accounts client (account b client - by) 0 few);
      within = each_set (λ x. x ≤ 1000) b.openings valve opening 0 h.within (ltb-false 1000 opening a.1);
    }

pay_keeps : (b : Book) (client to units : ℕ) → Sound b → code_of_pay b client to units ≡ 0 → Sound (paid b client to units)
pay_keeps b client to units h e =
    let xs : List ℕ = b.accounts in
    let has : ℕ = account b client in
    let gets : ℕ = account b to in
    let a = passed (nat_lt 31 to || (nat_lt 31 client || to == client)) false (nat_lt has units) e in
    let places = or_parts (nat_lt 31 to) (nat_lt 31 client || to == client) a.0 in
    let others = or_parts (nat_lt 31 client) (to == client) places.1 in
    let few : client < length xs = omega (arith, h.long, ltb-false 31 client others.0) in
    let ne : (to ≡ client) → ⊥ = eqb-false to client others.1 in
    let enough : units ≤ has = ltb-false has units a.2 in
    let ys : List ℕ = slice_set xs client (has - units) in
    let long : length ys ≡ length xs = length-set xs client (has - units) in
    let there : to < length ys = omega (arith, h.long, ltb-false 31 to places.0, long) in
    let same : slice_index_or ys to 0 ≡ gets = get_or-set_other xs client to (has - units) 0 (λ q. ne q) in
    record {
      long = length-set _ to _ ∙ (long ∙ h.long);
      whole = omega (arith, h.whole, same, sum_by-set (λ x. x) xs client (has - units) 0 few, sum_by-set (λ x. x) ys to (gets + units) 0 there);
      within = h.within;
    }

pub keeps : (b : Book) (client : ℕ) (o : Option ValveOrder) → Sound b → Sound (carried_out b client o)
keeps b client None h = h
keeps b client (Some (Open valve opening)) h = cond_both (code_of_open b client valve opening == 0) _ _ Sound (λ e. open_keeps b client valve opening h (eqb-true _ 0 e)) (λ e. h)
keeps b client (Some (Pay to units)) h = cond_both (code_of_pay b client to units == 0) _ _ Sound (λ e. pay_keeps b client to units h (eqb-true _ 0 e)) (λ e. h)
