use Rattle.std.proofs.Common.{◌≤◌}
use Rattle.vectors.proofs.compare_all.Given as goal

-- no more agree than were compared
abbrev pub invariant-loop-vector : goal.invariant-loop-vector
invariant-loop-vector g l = l.same ≤ l.vector-index
