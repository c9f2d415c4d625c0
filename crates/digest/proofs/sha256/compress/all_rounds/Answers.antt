use Rattle.std.proofs.Common.{refl, ◌∙◌, arith}
use Rattle.digest.specs.Constants.{K}
use Rattle.digest.specs.Sha256.{rounds}
use Rattle.digest.proofs.Rounds.{rounds_more, rounds_at}
use Rattle.digest.proofs.sha256.compress.all_rounds.Goals as goal

pub loop-t-init : goal.loop-t-init
unfolding rounds
loop-t-init c = refl

pub loop-t-preserved : goal.loop-t-preserved
unfolding K
loop-t-preserved c =
    let more = rounds_more c.loop-t.t c.args.w.now c.args.start in
    cc

pub returns : goal.returns
returns c = c.loop-t.invariant ∙ rounds_at c.args.w.now c.args.start (omega arith)
