use Rattle.std.proofs.Common.{length, sym, ap, ◌∙◌, arith, take_all}
use Rattle.std.specs.List.{flat_map}
use Rattle.wire.specs.Bytes.{put_over}
use Rattle.wire.specs.Frames.{request_bytes}
use Rattle.wire.proofs.Puts.{put_none, request_put}
use Rattle.wire.proofs.writing.put_requests.Goals as goal

pub loop-i-init : goal.loop-i-init
loop-i-init c = sym (put_none c.args.bytes.now 5)

pub put-requires : goal.put-requires
put-requires c = let row = ap length c.request_bytes.ensures in omega (arith, c.requires, c.loop-i.auto.bytes)

pub loop-i-preserved : goal.loop-i-preserved
loop-i-preserved c =
    request_put c.args.bytes.now c.loop-i.bytes c.put.new.dest c.args.requests.now c.loop-i.i c.request_bytes.result c.loop-i-test.true c.requires c.loop-i.invariant c.request_bytes.ensures c.put.ensures

pub returns : goal.returns
returns c = c.loop-i.invariant ∙ ap (λ l. put_over c.args.bytes.now 5 (flat_map request_bytes l)) (take_all _ _ c.loop-i-test.false)
