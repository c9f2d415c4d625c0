use Rattle.house.specs.Members.{Numbered, New}
use Rattle.house.proofs.members.Members.open.Given as goal

-- so many are open, each new and of its number
abbrev pub invariant-loop-own : goal.invariant-loop-own
invariant-loop-own g l =
    Numbered l.members.controllers.items l.own
    (λ own k. New l.n own l.digest l.start k.core k.digest k.app)
