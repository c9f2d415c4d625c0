use Rattle.std.proofs.Common.{◌≡◌, map, take}
use Rattle.table.specs.Ballots.{listed}
use Rattle.protocol.specs.Enter.{as_vote}
use Rattle.controller.proofs.enter.votes_of.Given as goal

-- the checkpoints so far
abbrev pub invariant-loop-x : goal.invariant-loop-x
invariant-loop-x l = l.votes ≡ listed (map as_vote (take l.x-index l.checkpoints))
