use Rattle.std.proofs.Common.{◌≡◌, sym, refl, ◌∙◌, arith}
use Rattle.std.proofs.lemmas.List.{length-set, take_all}
use Rattle.digest.specs.Sha256.{schedule}
use Rattle.digest.proofs.Rounds.{schedule_at, word_written}
use Rattle.digest.proofs.sha256.compress.message_schedule.Goals as goal

pub loop-t-init : goal.loop-t-init
unfolding schedule
loop-t-init c = (refl, refl)

pub loop-t-preserved : goal.loop-t-preserved
loop-t-preserved c = (
  length-set c.loop-t.w c.loop-t.t c.schedule_word.result ∙ c.loop-t.invariant.0,
  word_written c.loop-t.w c.loop-t.t c.args.block.now c.schedule_word.result (omega arith) c.loop-t.invariant.1 c.schedule_word.ensures,
)

pub returns : goal.returns
returns c =
    let end : c.loop-t.t ≡ 64 = omega arith in
    sym (take_all c.loop-t.t c.loop-t.w (omega arith)) ∙ (c.loop-t.invariant.1 ∙ schedule_at c.args.block.now end)
