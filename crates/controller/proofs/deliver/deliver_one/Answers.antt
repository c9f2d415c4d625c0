use Rattle.std.proofs.Common.{◌+◌, min, ap, ◌∙◌, arith}
use Rattle.std.proofs.lemmas.List.{length-take}
use Rattle.wire.specs.Frames.{requests_of}
use Rattle.window.specs.Deliveries.{delivered}
use Rattle.controller.proofs.Posts.{due_few}
use Rattle.controller.proofs.Flows.{one_few, one_reached}
use Rattle.controller.proofs.deliver.deliver_one.Goals as goal

pub returns : goal.returns
returns g c =
    let next = g.P.Application.next in
    let marked = g.P.Application.marked in
    let self = c.args.core.now in
    let app = c.args.app.now in
    let batch = c.args.batch.now in
    let w = c.deliver-tally in
    let is = w.ensures ∙ ap (delivered next app self.windows) c.as_slice.ensures in
    let few = one_few next marked self app (requests_of batch) w.new.windows w.new.app w.result.applied w.result.passed is (omega (arith, length-take (min batch.count 16) batch.requests)) in
    record {
      reached = one_reached next marked self app (requests_of batch) w.new.windows w.new.app w.result.applied w.result.passed is c.args.post.now c.checkpoint.new.post c.args.so_far c.mark.result c.mark.ensures c.checkpoint.ensures;
      more = (omega arith, omega (arith, few.0), omega (arith, few.1));
      sent = omega (arith, c.checkpoint.ensures.sent, due_few self.house.own (self.delivered + 1) c.mark.result);
    }

pub overflow_add-result-2 : goal.overflow_add-result-2
overflow_add-result-2 g c =
    let batch = c.args.batch.now in
    let w = c.deliver-tally in
    let is = w.ensures ∙ ap (delivered g.P.Application.next c.args.app.now c.args.core.now.windows) c.as_slice.ensures in
    let few = one_few g.P.Application.next g.P.Application.marked c.args.core.now c.args.app.now (requests_of batch) w.new.windows w.new.app w.result.applied w.result.passed is (omega (arith, length-take (min batch.count 16) batch.requests)) in
    omega (arith, few.0, c.requires.small.1)

pub overflow_add-result-3 : goal.overflow_add-result-3
overflow_add-result-3 g c =
    let batch = c.args.batch.now in
    let w = c.deliver-tally in
    let is = w.ensures ∙ ap (delivered g.P.Application.next c.args.app.now c.args.core.now.windows) c.as_slice.ensures in
    let few = one_few g.P.Application.next g.P.Application.marked c.args.core.now c.args.app.now (requests_of batch) w.new.windows w.new.app w.result.applied w.result.passed is (omega (arith, length-take (min batch.count 16) batch.requests)) in
    omega (arith, few.1, c.requires.small.2)
