use Rattle.host.proofs.Cases.{cases}
use Rattle.host.proofs.Worked.{premises}
use Rattle.host.proofs.laws.assembly_holds.Goals as goal

pub returns : goal.returns
returns c = record { cases = cases; premises = premises }
