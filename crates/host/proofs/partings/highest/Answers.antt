use Rattle.std.proofs.Common.{vec_items, ap, ◌∙◌, rules}
use Rattle.std.specs.Fn.{FnReturnsAt}
use Rattle.host.proofs.Turns.{highest_yes, highest_no}
use Rattle.host.proofs.partings.highest.Goals as goal
use Rattle.host.proofs.partings.highest.Goals.{then-key, else-key}

pub loop-p-preserved : goal.loop-p-preserved
loop-p-preserved g c = λ k computes.
    let old : FnReturnsAt g.F.Fn c.args.key c.loop-p.best.now c.key.result = search rules in
    let new : FnReturnsAt g.F.Fn c.args.key c.as_slice.result.now c.key-in-loop-p.result = search rules in
    let so_far = c.loop-p.invariant k computes in
    elim c.if-key.branch [
      | then-key w ↦ ap (λ b. b.now) w.best-is ∙ highest_yes k vec_items c.args.partings.now c.loop-p.p-index c.p-item.result c.loop-p-test.true c.p-item.is so_far (computes _ _ old) (computes _ _ new) c.as_slice.ensures.value w.if-key.true w.as_slice-best.ensures.value
      | else-key w ↦ ap (λ b. b.now) w.best-is ∙ highest_no k vec_items c.args.partings.now c.loop-p.p-index c.p-item.result c.loop-p-test.true c.p-item.is so_far (computes _ _ old) (computes _ _ new) c.as_slice.ensures.value w.if-key.false
    ]
