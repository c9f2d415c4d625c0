use Rattle.seal.proofs.Rolls.{membership}
use Rattle.seal.proofs.laws.roll_holds.Goals as goal

pub returns : goal.returns
returns c = membership
