use Rattle.wire.proofs.Trips.{sealed_back, batch_back}
use Rattle.wire.proofs.laws.written_reads_back.Goals as goal

pub returns : goal.returns
returns c = record { sealed = sealed_back; batch = batch_back }
