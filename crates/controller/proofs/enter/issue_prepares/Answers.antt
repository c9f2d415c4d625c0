use Rattle.std.proofs.Common.{◌+◌, ◌<◌, ◌≤◌, [], ◌∷◌, map, length, take, sym, ap, ◌∙◌, subst, arith}
use Rattle.protocol.specs.Call.{unsealed}
use Rattle.protocol.specs.Enter.{prepares_chosen}
use Rattle.controller.specs.declared.post.Post.{Post}
use Rattle.controller.specs.Sending.{Sent}
use Rattle.controller.proofs.Posts.{sent_none}
use Rattle.controller.proofs.Chosen.{issued_more, issued_room}
use Rattle.controller.proofs.enter.issue_prepares.Goals as goal
use Rattle.controller.proofs.enter.issue_prepares.Goals.{in-Some, in_default}

pub push-requires : goal.push-requires
push-requires c =
    issued_room c.args.signer c.args.epoch c.args.s c.args.chosen.now c.loop-i.i c.args.post.now c.loop-i.post (omega (arith, c.loop-i-test.true, c.told-chosen)) (omega (arith, c.requires.room, c.told-chosen)) c.loop-i.invariant

pub loop-i-preserved : goal.loop-i-preserved
loop-i-preserved c =
    let lt : c.loop-i.i < length c.args.chosen.now = omega (arith, c.loop-i-test.true, c.told-chosen) in
    let room : c.args.post.now.sent + length c.args.chosen.now ≤ length c.args.post.now.outbox.now = omega (arith, c.requires.room, c.told-chosen) in
    let next : Post → Type 0 = λ p. Sent c.args.post.now p (map unsealed (prepares_chosen c.args.signer c.args.epoch c.args.s (take (c.loop-i.i + 1) c.args.chosen.now))) in
    elim c.match-choice.branch [
      | in-Some w ↦
          subst next (sym w.post-is)
          (issued_more c.args.signer c.args.epoch c.args.s c.args.chosen.now c.loop-i.i c.args.post.now c.loop-i.post w.push.new.self (w.said.result ∷ []) lt room c.loop-i.invariant
          (ap (λ y. y ∷ []) w.said.ensures ∙ sym (ap (λ o. map unsealed (prepares_chosen c.args.signer c.args.epoch (c.args.s + c.loop-i.i) (o ∷ []))) w.in-Some.is)) w.push.ensures)
      | in_default w ↦
          subst next (sym w.post-is)
          (issued_more c.args.signer c.args.epoch c.args.s c.args.chosen.now c.loop-i.i c.args.post.now c.loop-i.post c.loop-i.post [] lt room c.loop-i.invariant
          (sym (ap (λ o. map unsealed (prepares_chosen c.args.signer c.args.epoch (c.args.s + c.loop-i.i) (o ∷ []))) w.in_default.is)) (sent_none c.loop-i.post))
    ]
