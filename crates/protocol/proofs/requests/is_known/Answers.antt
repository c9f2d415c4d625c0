use Rattle.std.proofs.Common.{◌-◌, ◌∙◌, rules, tests}
use Rattle.std.proofs.lemmas.Iterator.{YieldsList-from_slice}
use Rattle.std.proofs.lemmas.Iterator.Adapters.{YieldsList-from_skip}
use Rattle.std.proofs.lemmas.Iterator.Consumers.{YieldsList-at}
use Rattle.std.proofs.lemmas.Iterator.Search.{any_from_yields_List}
use Rattle.table.specs.declared.records.Place.{Place}
use Rattle.protocol.specs.Offer.{in_batch}
use Rattle.protocol.proofs.Known.{any_known}
use Rattle.protocol.proofs.requests.is_known.Goals as goal

pub returns : goal.returns
returns c =
    let q = c.args.q.now in
    any_from_yields_List (λ (p : Place). in_batch p.batch q) _ _ c.any.result c.any.ensures.ran
    (YieldsList-from_skip (c.args.d - c.args.base) (YieldsList-at c.skip.ensures.source (YieldsList-from_slice c.args.places.now cc)) cc)
    (λ x b g k. search (rules, tests))
    ∙ any_known c.args.base c.args.d q c.args.places.now
