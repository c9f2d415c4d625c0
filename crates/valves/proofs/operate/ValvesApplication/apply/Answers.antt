use Rattle.std.proofs.Common.{sym, ap, ◌∙◌, subst}
use Rattle.valves.specs.Book.{carried_out, code_of}
use Rattle.valves.specs.Keeps.{Sound, keeps}
use Rattle.valves.specs.Orders.{order_of}
use Rattle.valves.specs.Valves.{after, answer, sound}
use Rattle.valves.proofs.Same.{same_valves}
use Rattle.valves.proofs.operate.ValvesApplication.apply.Goals as goal

pub invariant_of-self : goal.invariant_of-self
invariant_of-self c =
    let was = c.carry_out.ensures.after ∙ ap (carried_out c.args.self.now.book c.args.client) c.order_of.ensures in
    let h = subst Sound (sym was) (keeps c.args.self.now.book c.args.client (order_of c.args.payload) (sound c.args.self.now)) in
    record { long = h.long; whole = h.whole; within = h.within }

pub returns : goal.returns
unfolding after answer
returns c = record {
  after = same_valves _ _ (c.carry_out.ensures.after ∙ ap (carried_out c.args.self.now.book c.args.client) c.order_of.ensures);
  value = c.answer_code.ensures ∙ (c.carry_out.ensures.value ∙ ap (code_of c.args.self.now.book c.args.client) c.order_of.ensures);
}
