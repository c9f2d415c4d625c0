use Rattle.dossier.proofs.Cases.{cases}
use Rattle.dossier.proofs.laws.cases_hold.Goals as goal

pub returns : goal.returns
returns c = cases
