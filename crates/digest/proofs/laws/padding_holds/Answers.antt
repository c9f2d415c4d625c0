use Rattle.digest.proofs.Theorems.{fewest_zeros}
use Rattle.digest.proofs.laws.padding_holds.Goals as goal

pub returns : goal.returns
returns c = fewest_zeros
