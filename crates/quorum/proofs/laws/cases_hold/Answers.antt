use Rattle.quorum.proofs.Allowed.{cases}
use Rattle.quorum.proofs.laws.cases_hold.Goals as goal

pub returns : goal.returns
returns c = cases
