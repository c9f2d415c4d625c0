use Rattle.dossier.proofs.Steps.{stables_enough}
use Rattle.dossier.proofs.target.Target.walk.Goals as goal

pub after_stables-requires : goal.after_stables-requires
after_stables-requires g c =
    stables_enough (g.C.SealChecker.accepts c.args.self.now.checker.now) c.args.self.now.terms c.args.records.now c.group.result c.in_ok-place.place c.group.ensures c.in_ok-place.was
