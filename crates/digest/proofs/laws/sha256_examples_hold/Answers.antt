use Rattle.digest.proofs.Theorems.{one_block, two_blocks}
use Rattle.digest.proofs.laws.sha256_examples_hold.Goals as goal

pub returns : goal.returns
returns c = record { one_block = one_block; two_blocks = two_blocks }
