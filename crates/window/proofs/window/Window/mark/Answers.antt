use Rattle.std.proofs.Common.{sym, subst}
use Rattle.window.specs.Spans.{Low, Fitted}
use Rattle.window.specs.Marked.{marked_fitted, marked_low}
use Rattle.window.proofs.window.Window.mark.Goals as goal

pub invariant_of-self : goal.invariant_of-self
invariant_of-self c =
    let w = c.args.self.now in
    let is = sym c.mark.ensures in
    record { low = subst Low is (marked_low w.span _ w.fits w.low); fits = subst Fitted is (marked_fitted w.span _ w.fits) }
