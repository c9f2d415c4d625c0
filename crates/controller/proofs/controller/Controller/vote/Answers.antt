use Rattle.std.proofs.Common.{◌≡◌, ◌≤◌, [], length, sym, ap, subst, arith, rules}
use Rattle.protocol.specs.declared.records.Core.{Core}
use Rattle.protocol.specs.State.{with_table}
use Rattle.protocol.specs.Delivery.{deliver_ready, begin}
use Rattle.protocol.specs.Vote.{vote_refusal, vote_table, vote_issued, vote_effect}
use Rattle.controller.specs.Agree.{Reached, no_progress}
use Rattle.controller.proofs.Kept.{Tame}
use Rattle.controller.proofs.Passes.{allowed, refused}
use Rattle.controller.proofs.Flows.{goes_on}
use Rattle.controller.proofs.Votings.{vote_room, vote_tame, vote_left, voted_reached}
use Rattle.controller.proofs.Ends.{flow_sound, delivered_agrees}
use Rattle.controller.proofs.controller.Controller.vote.Goals as goal

pub returns-in_err-check_vote-clause-agrees : goal.returns-in_err-check_vote-clause-agrees
returns-in_err-check_vote-clause-agrees g c =
    let core = c.args.self.now.core in
    let x = c.args.self.now.app in
    let box = c.args.outbox.now in
    let v = c.args.vote.now in
    refused tt c.in_err-check_vote.field-0.0 (vote_refusal (g.C.SealChecker.accepts c.args.checker.now) core box v) core x box (vote_effect g.A.Application.next g.A.Application.marked core x v) c.from_residual.result
    c.in_err-check_vote.ensures (search rules)

pub deliver_ready-progress-requires-clause-stable : goal.deliver_ready-progress-requires-clause-stable
deliver_ready-progress-requires-clause-stable g c =
    let ok = allowed tt _ _ c.in_ok-check_vote.ensures in
    let t = vote_tame (g.C.SealChecker.accepts c.args.checker.now) c.args.self.now.core c.args.outbox.now c.args.vote.now ok.1 c.args.self.now.sound in
    omega (arith, ap (λ (k : Core). k.table.stable) c.accept_vote.ensures.core, t.stable)

pub deliver_ready-progress-requires-clause-room : goal.deliver_ready-progress-requires-clause-room
deliver_ready-progress-requires-clause-room g c =
    let ok = allowed tt _ _ c.in_ok-check_vote.ensures in
    let room = vote_room (g.C.SealChecker.accepts c.args.checker.now) c.args.self.now.core c.args.outbox.now c.args.vote.now ok.1 in
    omega (arith, (vote_left c.args.self.now.core c.args.vote.now c.new-post.result c.accept_vote.new.post c.new-post.ensures.sent (subst (λ l. 400 ≤ length l) (sym c.new-post.ensures.outbox) room) c.accept_vote.ensures.out).1)

pub invariant_of-self : goal.invariant_of-self
invariant_of-self g c =
    let core = c.args.self.now.core in
    let ok = allowed tt _ _ c.in_ok-check_vote.ensures in
    let after = c.accept_vote.new.core in
    let t = vote_tame (g.C.SealChecker.accepts c.args.checker.now) core c.args.outbox.now c.args.vote.now ok.1 c.args.self.now.sound in
    record {
      sound = flow_sound g.A.Application.next g.A.Application.marked after (deliver_ready g.A.Application.next g.A.Application.marked 32 after (begin g.A.Application.next g.A.Application.marked after c.args.self.now.app [])) c.deliver_ready-progress.new.core c.deliver_ready-progress.ensures.reached.core
          (subst (λ (k : Core). Tame k.table) (sym c.accept_vote.ensures.core) t) c.deliver_ready-progress.ensures.low;
    }

pub returns-clause-agrees : goal.returns-clause-agrees
returns-clause-agrees g c =
    let none : c.default-none.result ≡ no_progress = search rules in
    let next = g.A.Application.next in
    let marked = g.A.Application.marked in
    let core = c.args.self.now.core in
    let x = c.args.self.now.app in
    let box = c.args.outbox.now in
    let v = c.args.vote.now in
    let accepts = g.C.SealChecker.accepts c.args.checker.now in
    let ok = allowed tt _ (vote_refusal accepts core box v) c.in_ok-check_vote.ensures in
    let start = c.new-post.result in
    let vote = c.accept_vote in
    let left = vote_left core v start vote.new.post c.new-post.ensures.sent (subst (λ l. 400 ≤ length l) (sym c.new-post.ensures.outbox) (vote_room accepts core box v ok.1)) vote.ensures.out in
    let last = c.deliver_ready-progress.new in
    let p = c.deliver_ready-progress.result in
    let after = with_table core (vote_table core v) in
    let flow = begin next marked after x (vote_issued core v) in
    let was = voted_reached next marked core (vote_table core v) (vote_issued core v) start vote.new.core x vote.new.post vote.ensures in
    let on : Reached vote.new.core vote.new.post no_progress (deliver_ready next marked 32 vote.new.core (begin next marked vote.new.core x [])) last.core last.app last.post p =
    subst (λ q. Reached vote.new.core vote.new.post q (deliver_ready next marked 32 vote.new.core (begin next marked vote.new.core x [])) last.core last.app last.post p) none c.deliver_ready-progress.ensures.reached in
    let reached = goes_on next marked after start no_progress flow vote.new.core x vote.new.post no_progress was left.0 last.core last.app last.post p on in
    delivered_agrees next marked core after x box _ start last.post (vote_refusal accepts core box v) flow last.core last.app p c.answer.result ok.1 c.new-post.ensures.outbox c.new-post.ensures.sent reached (search rules) c.answer.ensures
