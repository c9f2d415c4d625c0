use Rattle.std.proofs.Common.{vec_items, slice_get, map, sym, ◌∙◌, rules, tests}
use Rattle.std.proofs.lemmas.Iterator.{YieldsList-from_slice}
use Rattle.std.proofs.lemmas.Iterator.Adapters.{items_from_extend}
use Rattle.std.proofs.lemmas.Iterator.Consumers.{YieldsList-from_filter_map, YieldsList-from_filter, YieldsList-from_copied}
use Rattle.host.specs.Partings.{held_in, is_prepare}
use Rattle.host.proofs.Turns.{at_ok, helds_added, number_claimed, number_free}
use Rattle.host.proofs.assembly.add_number.Goals as goal

pub returns-in_ok-extend-2 : goal.returns-in_ok-extend-2
returns-in_ok-extend-2 c =
    let helds = items_from_extend c.extend.result c.extend.ensures.ran (YieldsList-from_filter_map _ (λ v. slice_get (held_in c.args.s (vec_items v)) 0) (YieldsList-from_slice c.args.partings.now cc) c.filter_map.ensures.closure (λ x r q k. search (rules, tests))) in
    let prepares = items_from_extend c.extend-in-Some.result c.extend-in-Some.ensures.ran (YieldsList-from_filter _ (is_prepare c.args.s c.in-Some.claim.statement) (YieldsList-from_copied (YieldsList-from_slice c.claimant-best.result.now cc)) c.filter.ensures.closure (λ x r q k. search (rules, tests))) in
    number_claimed (map vec_items c.args.partings.now) c.args.s (vec_items c.args.out.now) (helds_added c.args.s vec_items c.args.partings.now (vec_items c.args.out.now) (at_ok helds c.in_ok-extend.was).0)
    c.claimant-best.ensures (sym c.held_in.ensures ∙ c.in-Some.is) (at_ok prepares c.in_ok-extend-2.was).0

pub returns-in_default : goal.returns-in_default
returns-in_default c =
    let helds = items_from_extend c.extend.result c.extend.ensures.ran (YieldsList-from_filter_map _ (λ v. slice_get (held_in c.args.s (vec_items v)) 0) (YieldsList-from_slice c.args.partings.now cc) c.filter_map.ensures.closure (λ x r q k. search (rules, tests))) in
    number_free (map vec_items c.args.partings.now) c.args.s (vec_items c.args.out.now) (helds_added c.args.s vec_items c.args.partings.now (vec_items c.args.out.now) (at_ok helds c.in_ok-extend.was).0)
    c.claimant-best.ensures (sym c.held_in.ensures ∙ c.in_default.is)
