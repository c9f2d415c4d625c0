use Rattle.std.proofs.Common.{◌≡◌, drop}
use Rattle.protocol.specs.Offer.{first_bad}
use Rattle.protocol.proofs.records.Core.first_bad.Given as goal

-- what is left of the requests decides
abbrev pub invariant-loop-i : goal.invariant-loop-i
invariant-loop-i g l =
    let bad = first_bad (g.C.SealChecker.accepts l.checker) (g.D.Digest.value l.digest) l.self l.s l.requests in
    bad l.i (drop l.i l.requests) ≡ bad 0 l.requests
