use Rattle.std.proofs.Common.{◌≡◌, drop}
use Rattle.seal.specs.Roll.{listed}
use Rattle.seal.proofs.roll.contains.Given as goal

-- what is left of the entries decides
abbrev pub invariant-loop-entry : goal.invariant-loop-entry
invariant-loop-entry l = listed (drop l.entry-index l.entries) l.st l.seal ≡ listed l.entries l.st l.seal
