use Rattle.digest.proofs.Theorems.{fnv_examples}
use Rattle.digest.proofs.laws.fnv_examples_hold.Goals as goal

pub returns : goal.returns
returns c = fnv_examples
