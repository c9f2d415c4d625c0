use Rattle.std.proofs.Common.{◌∙◌}
use Rattle.protocol.specs.Call.{unsealed}
use Rattle.controller.specs.Agree.{said}
use Rattle.controller.proofs.Tells.{tell_made}
use Rattle.controller.proofs.give_up.tell.Goals as goal
use Rattle.wire.specs.declared.kinds.Kind.TheVariants.{Stable}

pub returns-clause-sent : goal.returns-clause-sent
returns-clause-sent c =
    let self = c.args.core.now in
    tell_made self c.args.target c.own-signer.result c.args.post.now c.push.new.self c.tell_helds.new.post c.said.result c.requires.room
    (c.said.ensures ∙ (λ i. unsealed (said Stable (c.own-signer.ensures i) c.args.target self.table.stable (c.from-nothing.ensures i)))) c.own-signer.ensures c.push.ensures c.tell_helds.ensures.sent
