use Rattle.std.proofs.Common.{◌≡◌}
use Rattle.digest.specs.Sha256.{rounds}
use Rattle.digest.proofs.sha256.compress.all_rounds.Given as goal

-- the rounds so far
abbrev pub invariant-loop-t : goal.invariant-loop-t
invariant-loop-t l = l.v ≡ rounds l.t l.w l.initial.v
