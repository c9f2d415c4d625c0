use Rattle.std.proofs.Common.{rules}
use Rattle.std.proofs.lemmas.List.{drop-drop}
use Rattle.wire.proofs.bytes.put.Goals as goal

pub returns : goal.returns
returns c = search (rules, drop-drop)
