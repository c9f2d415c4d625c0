use Rattle.std.proofs.Common.{◌*◌, ◌/◌, [], length, get_or, drop, refl, ap, ◌∙◌, arith}
use Rattle.std.proofs.lemmas.List.{get_or-take}
use Rattle.wire.specs.Frames.{requests_in, request_at}
use Rattle.wire.proofs.Places.{placed, all_placed, block_at, request_front}
use Rattle.wire.proofs.reading.requests_in.Goals as goal

pub loop-i-init : goal.loop-i-init
unfolding requests_in
loop-i-init c = refl

pub loop-i-preserved : goal.loop-i-preserved
loop-i-preserved c =
    let i = c.loop-i.i in
    let bs = c.args.body.now in
    let blocks = c.as_chunks.result.0.now in
    let block = get_or-take _ blocks i [] (omega arith) ∙ (ap (λ l. get_or l i []) c.as_chunks.ensures.front ∙ block_at i (length bs / 21) bs (omega (arith, c.as_chunks.ensures.front_len))) in
    placed i bs (drop (21 * i) bs) _ c.loop-i.requests (omega arith) refl (c.request_at.ensures ∙ (ap request_at block ∙ request_front (drop (21 * i) bs))) c.loop-i.invariant

pub returns : goal.returns
returns c =
    all_placed c.args.count c.loop-i.i c.args.body.now c.loop-i.requests (omega arith) c.loop-i.invariant
