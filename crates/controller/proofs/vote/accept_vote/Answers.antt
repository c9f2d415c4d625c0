use Rattle.wire.specs.declared.kinds.Kind.TheVariants.{Prepare, Commit}
use Rattle.wire.proofs.KindBytes.{same_kind_not}
use Rattle.controller.proofs.Votings.{other_voted}
use Rattle.controller.proofs.vote.accept_vote.Goals as goal

pub returns-in_default : goal.returns-in_default
returns-in_default c =
    let kind = c.args.vote.now.statement.kind in
    other_voted c.args.core.now c.args.vote.now c.args.post.now c.accept_checkpoint.new.core (same_kind_not kind Prepare c.in_default.not-Prepare) (same_kind_not kind Commit c.in_default.not-Commit) c.accept_checkpoint.ensures
