use Rattle.std.proofs.Common.{is_ok, sym, ap, ◌∙◌}
use Rattle.group.proofs.Groups.{held_counted}
use Rattle.group.proofs.check.holds_quorum.Goals as goal

pub returns-clause-counted : goal.returns-clause-counted
returns-clause-counted g c =
    λ h. held_counted g.T.Signed.names c.args.threshold.n c.args.threshold.q c.args.list.now (sym (c.is_ok.ensures.value ∙ ap is_ok c.group.ensures) ∙ h)
