use Rattle.std.proofs.Common.{arith}
use Rattle.table.proofs.Entering.{table_entered}
use Rattle.table.proofs.records.Table.enter.Goals as goal

pub loop-i-preserved : goal.loop-i-preserved
loop-i-preserved c = table_entered c.args.self.now c.loop-i.self c.args.chosen.now c.loop-i.i _ (omega arith) c.loop-i.invariant c.enter.ensures
