use Rattle.std.proofs.Common.{sym, subst}
use Rattle.controller.specs.Sound.{Sound}
use Rattle.controller.proofs.Passes.{new_sound}
use Rattle.controller.proofs.controller.Controller.open.Goals as goal

pub invariant_of-result : goal.invariant_of-result
invariant_of-result g c = record { sound = subst Sound (sym c.new-2.ensures) (new_sound c.in_ok-house.house) }
