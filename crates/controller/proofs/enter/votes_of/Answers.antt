use Rattle.controller.proofs.Chosen.{votes_more}
use Rattle.controller.proofs.enter.votes_of.Goals as goal

pub loop-x-preserved : goal.loop-x-preserved
loop-x-preserved c = votes_more c.args.checkpoints.now c.loop-x.x-index c.loop-x.votes c.push.new.self c.loop-x-test.true c.requires c.loop-x.invariant c.push.ensures
