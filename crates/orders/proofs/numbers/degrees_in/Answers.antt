use Rattle.std.proofs.Common.{rules}
use Rattle.std.proofs.lemmas.Str.Pattern.{strip_prefix_char}
use Rattle.orders.proofs.Points.{unsigned_degrees}
use Rattle.orders.proofs.numbers.degrees_in.Goals as goal

pub returns-in_err-hundredths_in-in-None : goal.returns-in_err-hundredths_in-in-None
returns-in_err-hundredths_in-in-None c =
    let cut = strip_prefix_char 45 c.args.word.now c.strip_prefix.result c.strip_prefix.ensures.cases (search rules) in
    let plain = unsigned_degrees c.args.word.now (rw c.in-None.is at cut) in
    search (rules, plain)

pub returns-in_ok-hundredths_in-in-None : goal.returns-in_ok-hundredths_in-in-None
returns-in_ok-hundredths_in-in-None c =
    let cut = strip_prefix_char 45 c.args.word.now c.strip_prefix.result c.strip_prefix.ensures.cases (search rules) in
    let plain = unsigned_degrees c.args.word.now (rw c.in-None.is at cut) in
    search (rules, plain)
