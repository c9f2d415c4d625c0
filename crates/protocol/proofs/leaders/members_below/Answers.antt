use Rattle.std.proofs.Common.{◌∙◌, arith, rules, tests}
use Rattle.std.proofs.lemmas.Iterator.{YieldsList-from_range}
use Rattle.std.proofs.lemmas.Iterator.Consumers.{YieldsList-from_filter, YieldsList-at, count_from_yields_List}
use Rattle.protocol.specs.Leaders.{member}
use Rattle.protocol.proofs.Counts.{count_below}
use Rattle.protocol.proofs.leaders.members_below.Goals as goal

pub returns : goal.returns
returns c =
    let p = member c.args.leaders in
    count_from_yields_List c.filter.result c.count.result c.count.ensures.ran
    (YieldsList-from_filter _ p (YieldsList-at c.filter.ensures.source (YieldsList-from_range 0 c.args.i c.args.i (cc) (omega arith))) c.filter.ensures.closure (λ x b q k. search (rules, tests)))
    ∙ count_below p c.args.i
