use Rattle.std.proofs.Common.{◌≡◌, length, take}
use Rattle.digest.specs.Sha256.{schedule}
use Rattle.digest.proofs.sha256.compress.message_schedule.Given as goal

-- the words so far
abbrev pub invariant-loop-t : goal.invariant-loop-t
invariant-loop-t l = (length l.w ≡ 64) × (take l.t l.w ≡ schedule l.t l.block)
