use Rattle.std.proofs.Common.{◌≡◌, take, fold}
use Rattle.digest.specs.Constants.{initial}
use Rattle.digest.specs.Sha256.{compressed}
use Rattle.digest.proofs.sha256.sha256.Given as goal

abbrev pub invariant-loop-block : goal.invariant-loop-block
invariant-loop-block l = l.hash ≡ fold compressed initial (take l.block-index l.blocks)
