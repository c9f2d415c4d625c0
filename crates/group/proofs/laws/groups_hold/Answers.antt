use Rattle.group.proofs.Groups.{groups}
use Rattle.group.proofs.laws.groups_hold.Goals as goal

pub returns : goal.returns
returns g c = groups _ _
