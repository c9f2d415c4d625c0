use Rattle.wire.proofs.Exact.{sealed_exact, batch_exact}
use Rattle.wire.proofs.laws.read_is_written.Goals as goal

pub returns : goal.returns
returns c = record { sealed = sealed_exact; batch = batch_exact }
