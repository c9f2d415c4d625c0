use Rattle.table.specs.Ballots.{no_vote}
use Rattle.controller.specs.Agree.{spoken}
use Rattle.controller.proofs.Tells.{vote_more}
use Rattle.controller.proofs.give_up.show_votes.Goals as goal

pub loop-vote-preserved : goal.loop-vote-preserved
loop-vote-preserved c =
    vote_more (spoken c.args.kind c.args.epoch c.args.number) c.args.votes.now no_vote c.loop-vote.vote-index c.args.post.now c.loop-vote.post c.push.new.self c.spoken.result
    c.loop-vote-test.true c.requires c.loop-vote.invariant c.spoken.ensures c.push.ensures
