use Rattle.controller.proofs.Passes.{turn_made}
use Rattle.controller.proofs.turn.accept_turn.Goals as goal

pub returns : goal.returns
returns c = turn_made c.args.core.now c.turned-core.result c.enter.new.self c.turned-core.ensures c.enter.ensures
