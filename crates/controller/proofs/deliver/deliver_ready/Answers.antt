use Rattle.std.proofs.Common.{◌≡◌, ◌+◌, ◌-◌, ◌≤◌, [], length, subst, arith}
use Rattle.protocol.specs.Delivery.{deliver_ready, begin}
use Rattle.controller.specs.Agree.{Reached}
use Rattle.controller.proofs.Posts.{sent_long}
use Rattle.controller.proofs.Flows.{none_on, more_on, ends_on, next_placed, one_higher, still_placed}
use Rattle.controller.proofs.deliver.deliver_ready.Goals as goal

pub loop-batch-init : goal.loop-batch-init
loop-batch-init g c =
    let next = g.P.Application.next in
    let marked = g.P.Application.marked in
    let core = c.args.core.now in
    let start = begin next marked core c.args.app.now [] in
    let none : 0 ≡ core.delivered - core.delivered = omega arith in
    record {
      reached = subst (λ n. Reached core c.args.post.now c.args.so_far (deliver_ready next marked n core start) core c.args.app.now c.args.post.now c.args.so_far) none (none_on next marked core c.args.app.now c.args.post.now c.args.so_far);
      risen = omega arith;
      low = c.requires.low;
      few = omega arith;
      placed = λ some. absurd (omega (arith, some, none));
      sent = omega (arith, none);
      batches = omega (arith, none, c.requires.begun.0);
      applied = omega (arith, none, c.requires.begun.1);
      passed = omega (arith, none, c.requires.begun.2);
    }

pub deliver_one-progress-requires : goal.deliver_one-progress-requires
deliver_one-progress-requires g c =
    let inv = c.loop-batch.invariant in
    let core = c.args.core.now in
    let room : c.loop-batch.post.sent ≤ length c.args.post.now.outbox.now = omega (arith, inv.sent, inv.few, c.requires.room) in
    let long = sent_long c.args.post.now c.loop-batch.post _ inv.reached.out room in
    let placed = next_placed g.P.Application.next g.P.Application.marked core c.args.app.now c.args.post.now c.args.so_far (c.loop-batch.core.delivered - core.delivered)
    c.loop-batch.core c.loop-batch.app c.loop-batch.post c.loop-batch.progress inv.reached room c.in-Some.batch c.in-Some.ensures in
    let fit = still_placed core.delivered c.loop-batch.core.delivered core.table.stable inv.risen inv.placed placed.1 placed.2 in
    record {
      low = inv.low;
      room = omega (arith, inv.sent, fit.1, c.requires.room, long);
      small = (omega (arith, inv.batches, inv.few), omega (arith, inv.applied, inv.few), omega (arith, inv.passed, inv.few));
    }

pub loop-batch-preserved : goal.loop-batch-preserved
loop-batch-preserved g c =
    let next = g.P.Application.next in
    let marked = g.P.Application.marked in
    let inv = c.loop-batch.invariant in
    let core = c.args.core.now in
    let was = c.loop-batch in
    let did = c.deliver_one-progress in
    let many = was.core.delivered - core.delivered in
    let room : was.post.sent ≤ length c.args.post.now.outbox.now = omega (arith, inv.sent, inv.few, c.requires.room) in
    let placed = next_placed next marked core c.args.app.now c.args.post.now c.args.so_far many was.core was.app was.post was.progress inv.reached room c.in-Some.batch c.in-Some.ensures in
    let fit = still_placed core.delivered was.core.delivered core.table.stable inv.risen inv.placed placed.1 placed.2 in
    let one = one_higher next marked was.core was.app _ was.post was.progress did.new.core did.new.app did.new.post did.result did.ensures.reached in
    let more : many + 1 ≡ did.new.core.delivered - core.delivered = omega (arith, one.0, inv.risen) in
    let add = did.ensures.more in
    record {
      reached = subst (λ n. Reached core c.args.post.now c.args.so_far (deliver_ready next marked n core (begin next marked core c.args.app.now [])) did.new.core did.new.app did.new.post did.result) more
          (more_on next marked core c.args.app.now c.args.post.now c.args.so_far many was.core was.app was.post was.progress inv.reached room c.in-Some.batch
          did.new.core did.new.app did.new.post did.result c.in-Some.ensures did.ensures.reached);
      risen = omega (arith, one.0, inv.risen);
      low = omega (arith, one.0, placed.2, c.requires.stable);
      few = omega (arith, more, fit.1);
      placed = λ _. fit.0;
      sent = omega (arith, did.ensures.sent, inv.sent, more);
      batches = omega (arith, add.0, inv.batches, more);
      applied = omega (arith, add.1, inv.applied, more);
      passed = omega (arith, add.2, inv.passed, more);
    }

pub loop-batch-smaller : goal.loop-batch-smaller
loop-batch-smaller g c =
    let inv = c.loop-batch.invariant in
    let core = c.args.core.now in
    let was = c.loop-batch in
    let did = c.deliver_one-progress in
    let room : was.post.sent ≤ length c.args.post.now.outbox.now = omega (arith, inv.sent, inv.few, c.requires.room) in
    let placed = next_placed g.P.Application.next g.P.Application.marked core c.args.app.now c.args.post.now c.args.so_far (was.core.delivered - core.delivered)
    was.core was.app was.post was.progress inv.reached room c.in-Some.batch c.in-Some.ensures in
    let one = one_higher g.P.Application.next g.P.Application.marked was.core was.app _ was.post was.progress did.new.core did.new.app did.new.post did.result did.ensures.reached in
    omega (arith, placed.0, placed.2, one.0, one.1)

pub returns : goal.returns
returns g c =
    let inv = c.loop-batch.invariant in
    let core = c.args.core.now in
    let room : c.loop-batch.post.sent ≤ length c.args.post.now.outbox.now = omega (arith, inv.sent, inv.few, c.requires.room) in
    record {
      reached = ends_on g.P.Application.next g.P.Application.marked core c.args.app.now c.args.post.now c.args.so_far (c.loop-batch.core.delivered - core.delivered)
          c.loop-batch.core c.loop-batch.app c.loop-batch.post c.loop-batch.progress inv.reached room inv.few c.in_default.ensures;
      low = inv.low;
    }
