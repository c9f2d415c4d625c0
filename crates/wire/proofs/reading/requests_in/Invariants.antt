use Rattle.std.proofs.Common.{◌≡◌, ◌-◌, ◌++◌, replicate}
use Rattle.wire.specs.Frames.{requests_in, no_request}
use Rattle.wire.proofs.reading.requests_in.Given as goal

-- the requests so far, then places that are free
abbrev pub invariant-loop-i : goal.invariant-loop-i
invariant-loop-i l = l.requests ≡ requests_in l.i l.body ++ replicate (16 - l.i) no_request
