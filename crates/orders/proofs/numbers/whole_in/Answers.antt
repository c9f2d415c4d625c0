use Rattle.std.proofs.Common.{refl}
use Rattle.std.specs.Str.Parse.{ParsesUnsigned, ExplainsUnsignedError, HasUnsignedDigitsIfOk}
use Rattle.text.proofs.Digits.{number_parsed}
use Rattle.orders.proofs.numbers.whole_in.Goals as goal

pub returns : goal.returns
returns c =
    number_parsed 32 4294967295 refl (λ bs p. ParsesUnsigned 32 10 bs p × ExplainsUnsignedError 10 bs p × HasUnsignedDigitsIfOk bs p) c.args.word.now c.number_in.result c.number_in.ensures (λ bs p h. h.0)
