use Rattle.wire.proofs.KindBytes.{kinds_back, same_kinds}
use Rattle.wire.proofs.laws.kinds_hold.Goals as goal

pub returns : goal.returns
returns c = record { back = kinds_back; same = same_kinds }
