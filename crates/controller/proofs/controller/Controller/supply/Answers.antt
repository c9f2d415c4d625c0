use Rattle.std.proofs.Common.{◌≡◌, [], ap, ◌∙◌, subst, rules}
use Rattle.wire.specs.Frames.{stored}
use Rattle.table.specs.Window.{supply_at}
use Rattle.protocol.specs.State.{with_table}
use Rattle.protocol.specs.Delivery.{deliver_ready, begin}
use Rattle.protocol.specs.Supply.{supply_refusal, supply_effect}
use Rattle.controller.specs.Agree.{Reached, no_progress}
use Rattle.controller.proofs.Passes.{allowed, refused}
use Rattle.controller.proofs.Ends.{delivered_agrees}
use Rattle.controller.proofs.controller.Controller.supply.Goals as goal

pub returns-in_err-batch-clause-agrees : goal.returns-in_err-batch-clause-agrees
returns-in_err-batch-clause-agrees g c =
    let core = c.args.self.now.core in
    let x = c.args.self.now.app in
    let box = c.args.outbox.now in
    let rs = c.args.requests.now in
    refused (stored rs) c.in_err-batch.field-0.0 (supply_refusal (g.D.Digest.value c.args.self.now.digest) core box c.args.number rs) core x box (supply_effect g.A.Application.next g.A.Application.marked core x c.args.number rs) c.from_residual.result
    c.in_err-batch.ensures (search rules)

pub returns-clause-agrees : goal.returns-clause-agrees
returns-clause-agrees g c =
    let none : c.default-none.result ≡ no_progress = search rules in
    let next = g.A.Application.next in
    let marked = g.A.Application.marked in
    let core = c.args.self.now.core in
    let x = c.args.self.now.app in
    let box = c.args.outbox.now in
    let rs = c.args.requests.now in
    let refusal = supply_refusal (g.D.Digest.value c.args.self.now.digest) core box c.args.number rs in
    let ok = allowed (stored rs) c.in_ok-batch.batch refusal c.in_ok-batch.ensures in
    let start = c.new-post.result in
    let last = c.deliver_ready-progress.new in
    let p = c.deliver_ready-progress.result in
    let after = with_table core (supply_at core.table c.args.number (stored rs)) in
    let made = ap (with_table core) (c.supply.ensures ∙ ap (supply_at core.table c.args.number) ok.0) in
    let reached : Reached after start no_progress (deliver_ready next marked 32 after (begin next marked after x [])) last.core last.app last.post p =
    subst (λ q. Reached after start q (deliver_ready next marked 32 after (begin next marked after x [])) last.core last.app last.post p) none
    (subst (λ k. Reached k start c.default-none.result (deliver_ready next marked 32 k (begin next marked k x [])) last.core last.app last.post p) made c.deliver_ready-progress.ensures.reached) in
    delivered_agrees next marked core after x box _ start last.post refusal (begin next marked after x []) last.core last.app p c.answer.result ok.1 c.new-post.ensures.outbox c.new-post.ensures.sent reached (search rules) c.answer.ensures
