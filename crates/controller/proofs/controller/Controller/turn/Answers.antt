use Rattle.std.proofs.Common.{◌+◌, sym, subst, rules}
use Rattle.protocol.specs.Change.{turn_refusal, turn_effect}
use Rattle.controller.specs.Sound.{Sound}
use Rattle.controller.proofs.Passes.{refused, turn_sound}
use Rattle.controller.proofs.controller.Controller.turn.Goals as goal

pub returns-in_err-epoch-clause-agrees : goal.returns-in_err-epoch-clause-agrees
returns-in_err-epoch-clause-agrees g c =
    let core = c.args.self.now.core in
    refused (core.view.epoch + 1) c.in_err-epoch.field-0.0 (turn_refusal core c.args.outbox.now) core c.args.self.now.app c.args.outbox.now (turn_effect core c.args.self.now.app) c.from_residual.result
    c.in_err-epoch.ensures (search rules)

pub invariant_of-self : goal.invariant_of-self
invariant_of-self g c = record { sound = subst Sound (sym c.accept_turn.ensures) (turn_sound c.args.self.now.core c.args.self.now.sound) }
