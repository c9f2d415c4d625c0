use Rattle.std.proofs.Common.{length, ap, ◌∙◌, arith}
use Rattle.dossier.specs.Walk.{checkpoint_group}
use Rattle.controller.proofs.Chosen.{group_few}
use Rattle.controller.proofs.enter.accept_enter.Goals as goal

pub votes_of-proof-requires : goal.votes_of-proof-requires
votes_of-proof-requires c =
    let records = c.args.records.now in
    let o = c.args.opened.now in
    omega (arith, group_few c.args.core.now records o, ap length (c.checkpoints.ensures ∙ ap (λ n. checkpoint_group n records o) c.quorum.ensures.exact))
