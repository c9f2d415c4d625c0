use Rattle.std.proofs.Common.{ℕ, not, ◌∙◌, tests, rules}
use Rattle.std.proofs.lemmas.Iterator.{YieldsList-from_slice}
use Rattle.std.proofs.lemmas.Iterator.Adapters.{position_from-zero}
use Rattle.std.proofs.lemmas.Iterator.Search.{position_from_yields_List}
use Rattle.text.specs.Hex.{is_digit}
use Rattle.text.proofs.Pairs.{first_found}
use Rattle.text.proofs.hex.bad_digit.Goals as goal

pub returns : goal.returns
returns c =
    let found = position_from_yields_List (λ (x : ℕ). not (is_digit x)) _ _ c.position.result c.position.ensures.ran (YieldsList-from_slice c.args.text.now cc) (λ x r q k. search (rules, tests)) in
    found ∙ (position_from-zero (λ (x : ℕ). not (is_digit x)) c.args.text.now ∙ first_found 0 c.args.text.now)
