use Rattle.std.proofs.Common.{ap, ◌∙◌, arith}
use Rattle.std.proofs.lemmas.Bool.Decides.{nat_tests}
use Rattle.wire.specs.Frames.{sealed_at}
use Rattle.wire.proofs.Places.{sealed_front}
use Rattle.wire.proofs.reading.sealed_after.Goals as goal

pub returns : goal.returns
returns c =
    let split = c.in-Some.ensures in
    let s = c.sealed_at.ensures ∙ (ap (sealed_at c.args.header.kind) split.cases.0 ∙ sealed_front c.args.header.kind c.args.body.now) in
    let kind = c.from.ensures in
    grind (arith, nat_tests)
