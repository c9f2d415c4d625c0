use Rattle.std.proofs.Common.{◌≡◌}
use Rattle.table.proofs.Entering.{partly}
use Rattle.table.proofs.records.Table.enter.Given as goal

-- the places so far have entered, and the others stand
abbrev pub invariant-loop-i : goal.invariant-loop-i
invariant-loop-i l = l.self ≡ partly l.fn.self l.chosen l.i
