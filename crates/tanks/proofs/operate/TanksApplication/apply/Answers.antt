use Rattle.std.proofs.Common.{sym, ap, ◌∙◌, subst}
use Rattle.tanks.specs.Farm.{carried_out, code_of}
use Rattle.tanks.specs.Keeps.{Sound, keeps}
use Rattle.tanks.specs.Orders.{order_of}
use Rattle.tanks.specs.Tanks.{after, answer, sound}
use Rattle.tanks.proofs.Same.{same_tanks}
use Rattle.tanks.proofs.operate.TanksApplication.apply.Goals as goal

pub invariant_of-self : goal.invariant_of-self
invariant_of-self c =
    let was = c.carry_out.ensures.after ∙ ap (carried_out c.args.self.now.farm c.args.client) c.order_of.ensures in
    let h = subst Sound (sym was) (keeps c.args.self.now.farm c.args.client (order_of c.args.payload) (sound c.args.self.now)) in
    record { long = h.long; level = h.level; warmth = h.warmth }

pub returns : goal.returns
unfolding after answer
returns c = record {
  after = same_tanks _ _ (c.carry_out.ensures.after ∙ ap (carried_out c.args.self.now.farm c.args.client) c.order_of.ensures);
  value = c.answer_code.ensures ∙ (c.carry_out.ensures.value ∙ ap (code_of c.args.self.now.farm c.args.client) c.order_of.ensures);
}
