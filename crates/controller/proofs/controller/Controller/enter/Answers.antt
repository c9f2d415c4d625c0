use Rattle.std.proofs.Common.{sym, subst}
use Rattle.controller.specs.Sound.{Sound}
use Rattle.controller.proofs.Chosen.{enter_sound}
use Rattle.controller.proofs.controller.Controller.enter.Goals as goal

pub invariant_of-self : goal.invariant_of-self
invariant_of-self g c =
    record { sound = subst Sound (sym c.accept_enter.ensures.core) (enter_sound c.args.self.now.core c.args.new.now c.args.records.now c.in_ok-opened.opened c.args.self.now.sound c.in_ok-opened.ensures.2) }
