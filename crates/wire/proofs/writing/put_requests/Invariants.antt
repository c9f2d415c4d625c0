use Rattle.std.proofs.Common.{◌≡◌, take}
use Rattle.std.specs.List.{flat_map}
use Rattle.wire.specs.Bytes.{put_over}
use Rattle.wire.specs.Frames.{request_bytes}
use Rattle.wire.proofs.writing.put_requests.Given as goal

-- the requests so far are written
abbrev pub invariant-loop-i : goal.invariant-loop-i
invariant-loop-i l = l.bytes ≡ put_over l.initial.bytes 5 (flat_map request_bytes (take l.i l.requests))
