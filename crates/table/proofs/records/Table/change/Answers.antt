use Rattle.std.proofs.Common.{get_or, refl, ap}
use Rattle.std.proofs.lemmas.Bool.{both_ways}
use Rattle.table.specs.Places.{past}
use Rattle.table.specs.Window.{in_window}
use Rattle.table.proofs.Changing.{changed_inside, kept_outside}
use Rattle.table.proofs.records.Table.change.Goals as goal

pub returns-in-Some : goal.returns-in-Some
returns-in-Some g c =
    let t = c.args.self.now in
    let new = c.change.new.arg2 in
    let at = c.in-Some.ensures.1 in (
      new,
      λ _. record { shown = _; shows = ap (λ i. get_or t.places i past) at; left = _; met = c.change.ensures; leaves = refl },
      changed_inside t c.args.number new c.in-Some.i c.in-Some.ensures.0 at,
    )

pub returns-in_default : goal.returns-in_default
returns-in_default g c =
    let t = c.args.self.now in
    let no = c.in_default.ensures in
    (past, λ yes. absurd (both_ways (in_window t c.args.number) no yes), kept_outside t c.args.number past no)
