use Rattle.std.proofs.Common.{refl}
use Rattle.valves.specs.Valves.{new_valves}
use Rattle.valves.proofs.Same.{same_valves}
use Rattle.valves.proofs.state.Valves.new.Goals as goal

pub invariant_of-result : goal.invariant_of-result
unfolding new_valves
invariant_of-result c = record { long = new_valves.long; whole = new_valves.whole; within = new_valves.within }

pub returns : goal.returns
unfolding new_valves
returns c = same_valves _ _ refl
