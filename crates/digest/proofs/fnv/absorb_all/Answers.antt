use Rattle.std.proofs.Common.{ap, ◌∙◌, take_all}
use Rattle.std.proofs.lemmas.List.Sums.{fold_more}
use Rattle.digest.specs.Fnv.{mix, fnv_from}
use Rattle.digest.proofs.fnv.absorb_all.Goals as goal

pub loop-b-preserved : goal.loop-b-preserved
loop-b-preserved c =
    let more = fold_more mix c.args.hash c.args.bytes.now c.loop-b.b-index 0 c.loop-b-test.true in
    cc

pub returns : goal.returns
returns c = c.loop-b.invariant ∙ ap (fnv_from c.args.hash) (take_all _ _ c.loop-b-test.false)
