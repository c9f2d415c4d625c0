use Rattle.std.proofs.Common.{◌+◌, ◌-◌, ◌*◌, ◌<◌, ◌≤◌, []}
use Rattle.protocol.specs.Delivery.{deliver_ready, begin}
use Rattle.controller.specs.Agree.{Reached}
use Rattle.controller.proofs.deliver.deliver_ready.Given as goal

-- so many batches are delivered as the numbers have risen; where that is some, the first had a place
abbrev pub invariant-loop-batch : goal.invariant-loop-batch
invariant-loop-batch g l =
    let next = g.P.Application.next in
    let marked = g.P.Application.marked in
    let many = l.core.delivered - l.initial.core.delivered in
    record {
      reached : Reached l.initial.core l.initial.post l.initial.progress (deliver_ready next marked many l.initial.core (begin next marked l.initial.core l.initial.app [])) l.core l.app l.post l.progress;
      risen : l.initial.core.delivered ≤ l.core.delivered;
      low : l.core.delivered ≤ 1000000000032;
      few : many ≤ 32;
      placed : 0 < many → l.initial.core.table.stable ≤ l.initial.core.delivered;
      sent : l.post.sent ≤ l.initial.post.sent + many;
      batches : l.progress.batches ≤ 1 + many;
      applied : l.progress.applied ≤ 16 + 16 * many;
      passed : l.progress.passed ≤ 16 + 16 * many;
    }

-- how many numbers with a place are left
abbrev pub decreases-loop-batch : goal.decreases-loop-batch
decreases-loop-batch g l = l.core.table.stable + 32 - l.core.delivered
