use Rattle.std.proofs.Common.{◌≡◌, Bool, true, None, sym, subst, rules}
use Rattle.std.specs.Bool.{MatchBool}
use Rattle.std.specs.Char.{is_ascii_digit}
use Rattle.std.specs.List.{list_all}
use Rattle.std.specs.Result.{result_ok}
use Rattle.text.proofs.numbers.number_in.Goals as goal

pub returns : goal.returns
returns g c =
    let all : list_all is_ascii_digit c.args.word.now ≡ true = search rules in
    subst (λ (b : Bool). MatchBool b ((p : _) × g.T.FromStr.from_str_gives c.args.word.now p × (c.ok.result ≡ result_ok p)) (c.ok.result ≡ None)) (sym all) (c.parse.result, c.parse.ensures.value, c.ok.ensures.value)
