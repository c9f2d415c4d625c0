use Rattle.std.proofs.Common.{◌≤◌, length, get_or, sym, ap, ◌∙◌, subst, rules}
use Rattle.std.proofs.lemmas.List.{take_rest}
use Rattle.wire.specs.Frames.{Reads, batch_rest}
use Rattle.wire.proofs.Heads.{by_count}
use Rattle.wire.proofs.reading.batch_after.Goals as goal

pub returns-in-len1-up : goal.returns-in-len1-up
returns-in-len1-up c =
    let bs = c.args.body.now in
    let h = c.args.header in
    let some : 1 ≤ length bs = search rules in
    subst (Reads c.batch_rest.result)
    (ap (batch_rest h.long (get_or bs 0 0)) (take_rest bs 1) ∙ sym (by_count h.long h.version h.kind bs c.if-header-ne1.false c.if-header-ne-BATCH.false some))
    c.batch_rest.ensures
