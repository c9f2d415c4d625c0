use Rattle.std.proofs.Common.{◌≡◌, ◌+◌, take}
use Rattle.window.specs.Deliveries.{delivered}
use Rattle.window.proofs.delivery.deliver.Given as goal

abbrev pub invariant-loop-q : goal.invariant-loop-q
invariant-loop-q g l =
    (l.applied + l.passed ≡ l.q-index)
    × (record { app = l.app; windows = l.windows; applied = l.applied; passed = l.passed } ≡ delivered g.P.Application.next l.initial.app l.initial.windows (take l.q-index l.requests))
