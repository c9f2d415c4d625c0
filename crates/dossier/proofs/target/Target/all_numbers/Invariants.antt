use Rattle.std.proofs.Common.{◌≡◌, ◌+◌, ◌-◌, [], length, take}
use Rattle.dossier.specs.Walk.{numbers}
use Rattle.dossier.proofs.target.Target.all_numbers.Given as goal

-- what is left decides
abbrev pub invariant-loop-k : goal.invariant-loop-k
invariant-loop-k g l =
    let accepts = g.C.SealChecker.accepts l.self.checker.now in
    (length l.claim-items ≡ 32)
    × (numbers accepts l.self.terms l.records l.stables (32 - l.k) (l.base + 1 + l.k) l.next (take l.k l.claim-items)
    ≡ numbers accepts l.self.terms l.records l.stables 32 (l.base + 1) l.place [])
