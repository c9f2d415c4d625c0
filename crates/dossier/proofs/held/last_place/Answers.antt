use Rattle.std.proofs.Common.{◌∙◌, rules}
use Rattle.seal.specs.Records.{none}
use Rattle.dossier.specs.Walk.{asked}
use Rattle.dossier.proofs.Last.{Looked, last_asked_is}
use Rattle.dossier.proofs.held.last_place.Goals as goal

pub returns : goal.returns
returns c =
    let looked : Looked (asked c.args.s) c.args.stables.now none c.rposition.result = search rules in
    c.unwrap_or.ensures ∙ last_asked_is c.args.s c.args.stables.now c.rposition.result looked
