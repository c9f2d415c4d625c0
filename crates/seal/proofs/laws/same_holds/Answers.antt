use Rattle.seal.proofs.Sameness.{same}
use Rattle.seal.proofs.laws.same_holds.Goals as goal

pub returns : goal.returns
returns c = same
