use Rattle.std.proofs.Common.{◌≡◌, ◌≤◌, [], length, ap, ◌∙◌, subst, arith, rules}
use Rattle.wire.specs.Frames.{stored, requests_of}
use Rattle.wire.proofs.Exact.{stored_back}
use Rattle.protocol.specs.State.{own}
use Rattle.protocol.specs.Delivery.{deliver_one, begin}
use Rattle.protocol.specs.Prove.{prove_refusal, prove_effect}
use Rattle.controller.specs.Agree.{Reached, no_progress}
use Rattle.controller.proofs.Passes.{allowed, refused}
use Rattle.controller.proofs.Flows.{goes_on}
use Rattle.controller.proofs.Ends.{prove_may, one_low, delivered_agrees}
use Rattle.controller.proofs.controller.Controller.prove.Goals as goal

pub returns-in_err-batch-clause-agrees : goal.returns-in_err-batch-clause-agrees
returns-in_err-batch-clause-agrees g c =
    let core = c.args.self.now.core in
    let x = c.args.self.now.app in
    let box = c.args.outbox.now in
    let rs = c.args.requests.now in
    refused (stored rs) c.in_err-batch.field-0.0 (prove_refusal (g.C.SealChecker.accepts c.args.checker.now) (g.D.Digest.value c.args.self.now.digest) core box c.args.number rs c.args.commits.now) core x box
    (prove_effect g.A.Application.next g.A.Application.marked core x rs) c.from_residual.result c.in_err-batch.ensures (search rules)

pub deliver_ready-progress-requires-clause-low : goal.deliver_ready-progress-requires-clause-low
deliver_ready-progress-requires-clause-low g c =
    let core = c.args.self.now.core in
    let ok = allowed _ c.in_ok-batch.batch _ c.in_ok-batch.ensures in
    let may = prove_may (g.C.SealChecker.accepts c.args.checker.now) (g.D.Digest.value c.args.self.now.digest) core c.args.outbox.now c.args.number c.args.requests.now c.args.commits.now ok.1 in
    let first = c.deliver_one-first in
    one_low g.A.Application.next g.A.Application.marked core c.args.self.now.app _ c.new-post.result c.default-none.result first.new.core first.new.app first.new.post first.result may.2 first.ensures.reached

pub returns-clause-agrees : goal.returns-clause-agrees
returns-clause-agrees g c =
    let none : c.default-none.result ≡ no_progress = search rules in
    let next = g.A.Application.next in
    let marked = g.A.Application.marked in
    let core = c.args.self.now.core in
    let x = c.args.self.now.app in
    let box = c.args.outbox.now in
    let rs = c.args.requests.now in
    let accepts = g.C.SealChecker.accepts c.args.checker.now in
    let value = g.D.Digest.value c.args.self.now.digest in
    let refusal = prove_refusal accepts value core box c.args.number rs c.args.commits.now in
    let batch = c.in_ok-batch.batch in
    let ok = allowed (stored rs) batch refusal c.in_ok-batch.ensures in
    let may = prove_may accepts value core box c.args.number rs c.args.commits.now ok.1 in
    let start = c.new-post.result in
    let first = c.deliver_one-first in
    let last = c.deliver_ready-progress.new in
    let p = c.deliver_ready-progress.result in
    let same = ap requests_of ok.0 ∙ stored_back rs may.0 in
    let flow = deliver_one next marked (own core) (begin next marked core x []) rs in
    let was : Reached core start no_progress flow first.new.core first.new.app first.new.post first.result =
    subst (λ q. Reached core start q flow first.new.core first.new.app first.new.post first.result) none
    (subst (λ l. Reached core start c.default-none.result (deliver_one next marked (own core) (begin next marked core x []) l) first.new.core first.new.app first.new.post first.result) same first.ensures.reached) in
    let room : first.new.post.sent ≤ length start.outbox.now = omega (arith, may.1, first.ensures.sent, c.new-post.ensures.sent, ap length c.new-post.ensures.outbox) in
    let reached = goes_on next marked core start no_progress flow first.new.core first.new.app first.new.post first.result was room last.core last.app last.post p c.deliver_ready-progress.ensures.reached in
    delivered_agrees next marked core core x box _ start last.post refusal flow last.core last.app p c.answer.result ok.1 c.new-post.ensures.outbox c.new-post.ensures.sent reached (search rules) c.answer.ensures
