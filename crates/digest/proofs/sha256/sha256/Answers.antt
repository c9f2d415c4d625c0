use Rattle.std.proofs.Common.{[], get_or, fold, sym, refl, ap, ◌∙◌}
use Rattle.std.proofs.lemmas.List.{take_all}
use Rattle.std.proofs.lemmas.List.Sums.{fold_more}
use Rattle.digest.specs.Constants.{initial}
use Rattle.digest.specs.Sha256.{compressed}
use Rattle.digest.proofs.Blocks.{hashed}
use Rattle.digest.proofs.sha256.sha256.Goals as goal

pub loop-block-init : goal.loop-block-init
unfolding initial
loop-block-init c = refl

pub loop-block-preserved : goal.loop-block-preserved
loop-block-preserved c =
    let more = fold_more compressed initial c.as_chunks.result.0.now c.loop-block.block-index [] c.loop-block-test.true in
    c.compress-hash.ensures ∙ (ap (λ hs. compressed hs (get_or c.as_chunks.result.0.now c.loop-block.block-index [])) c.loop-block.invariant ∙ sym more)

pub returns : goal.returns
returns c =
    let all = take_all c.loop-block.block-index c.as_chunks.result.0.now c.loop-block-test.false in
    hashed c.args.message.now c.as_chunks.result.0.now c.as_chunks.result.1.now c.loop-block.hash c.finish.result c.bytes_of.result
    c.as_chunks.ensures.front c.as_chunks.ensures.back c.as_chunks.ensures.back_len
    (c.loop-block.invariant ∙ ap (fold compressed initial) all) c.finish.ensures c.bytes_of.ensures
