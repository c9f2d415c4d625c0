use Rattle.digest.specs.Sha256.{round}
use Rattle.digest.proofs.Rounds.{sum5}
use Rattle.digest.proofs.sha256.working.Working.round.Goals as goal

pub returns : goal.returns
unfolding round
returns c =
    let t1 = sum5 c.args.self.h c.big_sigma1.result c.choose.result c.args.k c.args.w in
    cc
