use Rattle.std.proofs.Common.{◌≡◌, take}
use Rattle.digest.specs.Fnv.{fnv_from}
use Rattle.digest.proofs.fnv.absorb_all.Given as goal

-- the hash of the bytes so far
abbrev pub invariant-loop-b : goal.invariant-loop-b
invariant-loop-b l = l.h ≡ fnv_from l.hash (take l.b-index l.bytes)
