use Rattle.std.proofs.Common.{◌+◌, ◌*◌, ◌≤◌, length, take}
use Rattle.protocol.specs.Change.{prepares_from}
use Rattle.controller.specs.Sending.{Sent}
use Rattle.controller.proofs.give_up.show_certificates.Given as goal

-- the certificates so far are shown
abbrev pub invariant-loop-i : goal.invariant-loop-i
invariant-loop-i l =
    let all = prepares_from (l.base + 1) (take l.i l.places) in
    Sent l.initial.post l.post all × (length all ≤ 11 * l.i)
