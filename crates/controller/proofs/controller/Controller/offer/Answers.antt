use Rattle.std.proofs.Common.{sym, subst, rules}
use Rattle.wire.specs.Frames.{stored}
use Rattle.protocol.specs.Offer.{offer_refusal, offer_effect}
use Rattle.controller.specs.Sound.{Sound}
use Rattle.controller.proofs.Passes.{allowed, refused, offer_sound, offer_agrees}
use Rattle.controller.proofs.controller.Controller.offer.Goals as goal

pub returns-in_err-batch-clause-agrees : goal.returns-in_err-batch-clause-agrees
returns-in_err-batch-clause-agrees g c =
    let core = c.args.self.now.core in
    let x = c.args.self.now.app in
    let box = c.args.outbox.now in
    let p = c.args.proposal.now in
    let rs = c.args.requests.now in
    refused (stored rs) c.in_err-batch.field-0.0 (offer_refusal (g.C.SealChecker.accepts c.args.checker.now) (g.D.Digest.value c.args.self.now.digest) core box p rs) core x box (offer_effect core x p rs) c.from_residual.result
    c.in_err-batch.ensures (search rules)

pub invariant_of-self-2 : goal.invariant_of-self-2
invariant_of-self-2 g c = record { sound = subst Sound (sym c.accept_offer.ensures.core) (offer_sound c.args.self.now.core c.args.proposal.now _ c.args.self.now.sound) }

pub returns-clause-agrees : goal.returns-clause-agrees
returns-clause-agrees g c =
    let rs = c.args.requests.now in
    offer_agrees (g.C.SealChecker.accepts c.args.checker.now) (g.D.Digest.value c.args.self.now.digest) c.args.self.now.core c.args.self.now.app c.args.outbox.now _ c.args.proposal.now rs
    c.new-post.result c.accept_offer.new.post c.in_ok-batch.batch c.accept_offer.new.core c.quiet.result (allowed (stored rs) c.in_ok-batch.batch _ c.in_ok-batch.ensures)
    c.accept_offer.ensures.core c.new-post.ensures.outbox c.new-post.ensures.sent c.accept_offer.ensures.post (search rules) c.quiet.ensures
