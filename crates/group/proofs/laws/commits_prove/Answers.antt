use Rattle.group.proofs.Groups.{commits_prove}
use Rattle.group.proofs.laws.commits_prove.Goals as goal

pub returns : goal.returns
returns c = commits_prove
