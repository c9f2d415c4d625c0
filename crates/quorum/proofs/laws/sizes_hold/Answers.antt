use Rattle.quorum.proofs.Allowed.{sizes}
use Rattle.quorum.proofs.laws.sizes_hold.Goals as goal

pub returns : goal.returns
returns c = sizes
