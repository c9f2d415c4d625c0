use Rattle.std.proofs.Common.{map, take}
use Rattle.protocol.specs.Call.{unsealed}
use Rattle.protocol.specs.Enter.{prepares_chosen}
use Rattle.controller.specs.Sending.{Sent}
use Rattle.controller.proofs.enter.issue_prepares.Given as goal

-- the numbers so far are prepared
abbrev pub invariant-loop-i : goal.invariant-loop-i
invariant-loop-i l = Sent l.initial.post l.post (map unsealed (prepares_chosen l.signer l.epoch l.s (take l.i l.chosen)))
