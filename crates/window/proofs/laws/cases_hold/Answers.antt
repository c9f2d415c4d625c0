use Rattle.std.proofs.Common.{refl}
use Rattle.window.specs.Spans.{rise}
use Rattle.window.proofs.laws.cases_hold.Goals as goal

pub returns : goal.returns
unfolding rise
returns c = record { window = (refl, refl, refl, refl); delivery = refl }
