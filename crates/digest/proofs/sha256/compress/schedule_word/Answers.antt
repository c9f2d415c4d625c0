use Rattle.std.proofs.Common.{◌-◌, get_or, sym, ◌∙◌}
use Rattle.digest.proofs.Rounds.{sum4, word_of_block, word_of_words}
use Rattle.digest.proofs.sha256.compress.schedule_word.Goals as goal

pub returns-then-t-lt16 : goal.returns-then-t-lt16
returns-then-t-lt16 c = c.word_at.ensures ∙ sym (word_of_block c.args.block.now c.args.w.now c.args.t c.if-t-lt16.true)

pub returns : goal.returns
returns c =
    let sum = sum4 c.small_sigma1.result (get_or c.args.w.now (c.args.t - 7) 0) c.small_sigma0.result (get_or c.args.w.now (c.args.t - 16) 0) in
    let is = word_of_words c.args.block.now c.args.w.now c.args.t c.if-t-lt16.false in
    cc
