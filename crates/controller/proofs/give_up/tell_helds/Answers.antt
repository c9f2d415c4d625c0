use Rattle.std.proofs.Common.{◌+◌, arith}
use Rattle.controller.proofs.Tells.{held_more, held_room}
use Rattle.controller.proofs.give_up.tell_helds.Goals as goal

pub push-requires : goal.push-requires
push-requires c =
    held_room c.args.signer c.args.target (c.args.base + 1) c.args.places.now c.loop-i.i c.args.post.now c.loop-i.post (omega (arith, c.loop-i-test.true, c.told-places)) (omega (arith, c.requires.room, c.told-places)) c.loop-i.invariant

pub loop-i-preserved : goal.loop-i-preserved
loop-i-preserved c =
    held_more c.args.signer c.args.target (c.args.base + 1) c.args.places.now c.loop-i.i c.args.post.now c.loop-i.post c.push.new.self c.held.result
    (omega (arith, c.loop-i-test.true, c.told-places)) (omega (arith, c.requires.room, c.told-places)) c.loop-i.invariant c.held.ensures c.push.ensures
