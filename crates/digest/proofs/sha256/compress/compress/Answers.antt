use Rattle.digest.specs.Sha256.{compressed}
use Rattle.digest.proofs.sha256.compress.compress.Goals as goal

pub returns : goal.returns
unfolding compressed
returns c = cc
