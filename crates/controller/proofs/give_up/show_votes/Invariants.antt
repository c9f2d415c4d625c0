use Rattle.std.proofs.Common.{map, take}
use Rattle.controller.specs.Sending.{Sent}
use Rattle.controller.specs.Agree.{spoken}
use Rattle.controller.proofs.give_up.show_votes.Given as goal

-- the votes so far are sent
abbrev pub invariant-loop-vote : goal.invariant-loop-vote
invariant-loop-vote l = Sent l.initial.post l.post (map (spoken l.kind l.epoch l.number) (take l.vote-index l.votes))
