use Rattle.host.proofs.Acceptance.{assembly_accepted}
use Rattle.host.proofs.laws.assembly_accepted.Goals as goal

pub returns : goal.returns
returns c = assembly_accepted
