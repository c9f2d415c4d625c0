use Rattle.std.proofs.Common.{◌≡◌, ◌*◌, length, take}
use Rattle.std.specs.List.{flat_map}
use Rattle.digest.specs.Words.{bytes4}
use Rattle.digest.proofs.sha256.bytes_of.Given as goal

abbrev pub invariant-loop-i : goal.invariant-loop-i
invariant-loop-i l = (length l.out ≡ 32) × (take (l.i * 4) l.out ≡ flat_map bytes4 (take l.i l.hash))
