use Rattle.std.proofs.Common.{ok_or, refl, ap, ◌∙◌}
use Rattle.std.specs.Str.Parse.{ParsesUnsigned, ExplainsUnsignedError, HasUnsignedDigitsIfOk}
use Rattle.text.proofs.Digits.{number_parsed}
use Rattle.replay.specs.declared.fault.Wrong.TheVariants.{Number}
use Rattle.replay.proofs.words.number.Goals as goal

pub returns : goal.returns
returns c =
    c.ok_or.ensures.value ∙ ap (λ n. ok_or n Number)
    (number_parsed 64 18446744073709551615 refl (λ bs p. ParsesUnsigned 64 10 bs p × ExplainsUnsignedError 10 bs p × HasUnsignedDigitsIfOk bs p) c.args.word.now c.number_in.result c.number_in.ensures (λ bs p h. h.0))
