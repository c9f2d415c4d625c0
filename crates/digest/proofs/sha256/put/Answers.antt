use Rattle.std.proofs.Common.{rules}
use Rattle.std.proofs.lemmas.List.{drop-drop}
use Rattle.digest.proofs.sha256.put.Goals as goal

pub returns : goal.returns
returns c = search (rules, drop-drop)
