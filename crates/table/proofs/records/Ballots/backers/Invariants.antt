use Rattle.std.proofs.Common.{◌≡◌, ◌≤◌, length, take}
use Rattle.table.specs.Ballots.{backers_from, listed}
use Rattle.table.proofs.records.Ballots.backers.Given as goal

-- the votes of the signers so far
abbrev pub invariant-loop-signer : goal.invariant-loop-signer
invariant-loop-signer l = let some = backers_from l.digest 0 (take l.signer l.self.of) in (l.votes ≡ listed some) × (length some ≤ l.signer)
