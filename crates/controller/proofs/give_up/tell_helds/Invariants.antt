use Rattle.std.proofs.Common.{◌+◌, map, take}
use Rattle.protocol.specs.Call.{unsealed}
use Rattle.protocol.specs.Change.{helds_from}
use Rattle.controller.specs.Sending.{Sent}
use Rattle.controller.proofs.give_up.tell_helds.Given as goal

-- the places so far are told
abbrev pub invariant-loop-i : goal.invariant-loop-i
invariant-loop-i l = Sent l.initial.post l.post (map unsealed (helds_from l.signer l.target (l.base + 1) (take l.i l.places)))
