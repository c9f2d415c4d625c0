use Rattle.std.proofs.Common.{refl}
use Rattle.wire.specs.Values.{same_digest}
use Rattle.wire.proofs.laws.equality_holds.Goals as goal

pub returns : goal.returns
unfolding same_digest
returns c = λ a b. refl
