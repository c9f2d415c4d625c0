use Rattle.std.proofs.Common.{sym, arith}
use Rattle.quorum.proofs.Allowed.{sizes}
use Rattle.quorum.proofs.house.House.new.Goals as goal

pub invariant_of-result : goal.invariant_of-result
invariant_of-result c =
    let sized = sym c.if-not-is_allowed.ensures in
    record { sized = sized; few = (sizes c.args.n sized).few; placed = omega arith }
