use Rattle.quorum.proofs.Counting.{signers_count}
use Rattle.quorum.proofs.laws.signers_count.Goals as goal

pub returns : goal.returns
returns c = signers_count
