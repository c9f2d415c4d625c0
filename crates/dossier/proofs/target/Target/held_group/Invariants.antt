use Rattle.std.proofs.Common.{◌≡◌, drop}
use Rattle.dossier.specs.Walk.{helds, helds_from}
use Rattle.dossier.proofs.target.Target.held_group.Given as goal

-- what is left decides
abbrev pub invariant-loop-j : goal.invariant-loop-j
invariant-loop-j g l =
    let accepts = g.C.SealChecker.accepts l.self.checker.now in
    helds_from accepts l.self.terms l.records l.s l.last l.j l.tally l.next (drop l.j l.stables)
    ≡ helds accepts l.self.terms l.records l.s l.place l.stables
