use Rattle.std.proofs.Common.{◌+◌, ◌*◌, ◌<◌, ◌≤◌, [], map, length, take, sym, ap, subst, arith}
use Rattle.std.proofs.lemmas.List.{length-map}
use Rattle.protocol.specs.Change.{prepares_for, prepares_from}
use Rattle.controller.specs.declared.post.Post.{Post}
use Rattle.controller.specs.Sending.{Sent}
use Rattle.controller.specs.Agree.{spoken}
use Rattle.controller.proofs.Posts.{sent_none}
use Rattle.controller.proofs.Tells.{certificate_more, certificate_votes}
use Rattle.controller.proofs.give_up.show_certificates.Goals as goal
use Rattle.controller.proofs.give_up.show_certificates.Goals.{in-Some, in_default}
use Rattle.wire.specs.declared.kinds.Kind.TheVariants.{Prepare}

pub loop-i-preserved : goal.loop-i-preserved
loop-i-preserved c =
    let number = c.args.base + 1 + c.loop-i.i in
    let lt : c.loop-i.i < length c.args.places.now = omega (arith, c.loop-i-test.true, c.told-places) in
    let long : length c.args.places.now ≤ 32 = omega (arith, c.told-places) in
    let next : Post → Type 0 = λ p.
    Sent c.args.post.now p (prepares_from (c.args.base + 1) (take (c.loop-i.i + 1) c.args.places.now))
    × (length (prepares_from (c.args.base + 1) (take (c.loop-i.i + 1) c.args.places.now)) ≤ 11 * (c.loop-i.i + 1)) in
    elim c.match-place.branch [
      | in-Some w ↦
          let v = certificate_votes number _ w.in-Some.held w.as_slice.result.now w.in-Some.is (c.requires.few.1 c.loop-i.i) w.as_slice.ensures in
          let shown = map (spoken Prepare w.in-Some.held.epoch number) w.as_slice.result.now in
          subst next (sym w.post-is)
          (certificate_more (c.args.base + 1) c.args.places.now c.loop-i.i c.args.post.now c.loop-i.post w.show_votes.new.post shown lt long c.requires.room c.loop-i.invariant
          (omega (arith, v.1, length-map w.as_slice.result.now (spoken Prepare w.in-Some.held.epoch number))) v.2 w.show_votes.ensures)
      | in_default w ↦
          subst next (sym w.post-is)
          (certificate_more (c.args.base + 1) c.args.places.now c.loop-i.i c.args.post.now c.loop-i.post c.loop-i.post [] lt long c.requires.room c.loop-i.invariant
          (omega arith) (sym (ap (prepares_for number) w.in_default.is)) (sent_none c.loop-i.post))
    ]
