use Rattle.std.proofs.Common.{◌∙◌, rules, tests}
use Rattle.std.proofs.lemmas.Iterator.{YieldsList-from_slice}
use Rattle.std.proofs.lemmas.Iterator.Search.{any_from_yields_List}
use Rattle.protocol.specs.Offer.{same_request}
use Rattle.protocol.proofs.Known.{any_same}
use Rattle.protocol.proofs.requests.has_request.Goals as goal

pub returns : goal.returns
returns c =
    let q = c.args.q.now in
    any_from_yields_List (λ x. same_request x q) _ _ c.any.result c.any.ensures.ran (YieldsList-from_slice c.args.requests.now cc) (λ x b g k. search (rules, tests))
    ∙ any_same q c.args.requests.now
