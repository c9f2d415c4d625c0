use Rattle.std.proofs.Common.{refl}
use Rattle.tanks.specs.Tanks.{new_tanks}
use Rattle.tanks.proofs.Same.{same_tanks}
use Rattle.tanks.proofs.state.Tanks.new.Goals as goal

pub invariant_of-result : goal.invariant_of-result
unfolding new_tanks
invariant_of-result c = record { long = new_tanks.long; level = new_tanks.level; warmth = new_tanks.warmth }

pub returns : goal.returns
unfolding new_tanks
returns c = same_tanks _ _ refl
