use Rattle.std.proofs.Common.{◌+◌, rules}
use Rattle.protocol.specs.Change.{give_up_refusal, give_up_effect}
use Rattle.controller.proofs.Passes.{refused}
use Rattle.controller.proofs.controller.Controller.give_up.Goals as goal

pub returns-in_err-epoch-clause-agrees : goal.returns-in_err-epoch-clause-agrees
returns-in_err-epoch-clause-agrees g c =
    let core = c.args.self.now.core in
    refused (core.view.epoch + 1) c.in_err-epoch.field-0.0 (give_up_refusal core c.args.outbox.now) core c.args.self.now.app c.args.outbox.now (give_up_effect core c.args.self.now.app) c.from_residual.result
    c.in_err-epoch.ensures (search rules)
