use Rattle.std.proofs.Common.{vec_items, slice_get, map, rules, tests}
use Rattle.std.proofs.lemmas.Iterator.{YieldsList-from_slice}
use Rattle.std.proofs.lemmas.Iterator.Adapters.{items_from_extend}
use Rattle.std.proofs.lemmas.Iterator.Consumers.{YieldsList-from_filter_map, YieldsList-from_filter, YieldsList-from_copied}
use Rattle.host.specs.Partings.{is_checkpoint}
use Rattle.host.proofs.Turns.{at_ok, firsts_added, assembled_whole}
use Rattle.host.proofs.assembly.assemble.Goals as goal

pub returns : goal.returns
returns c =
    let stables = items_from_extend c.extend.result c.extend.ensures.ran (YieldsList-from_filter_map _ (λ v. slice_get (vec_items v) 0) (YieldsList-from_slice c.args.partings.now cc) c.filter_map.ensures.closure (λ x r q k. search (rules, tests))) in
    let checkpoints = items_from_extend c.extend-2.result c.extend-2.ensures.ran (YieldsList-from_filter _ (is_checkpoint c.stable_in-base.result) (YieldsList-from_copied (YieldsList-from_slice c.latest-best.result.now cc)) c.filter.ensures.closure (λ x r q k. search (rules, tests))) in
    assembled_whole (map vec_items c.args.partings.now) c.latest-best.ensures c.stable_in-base.ensures c.new-out.ensures.items
    (firsts_added vec_items c.args.partings.now _ (at_ok stables c.in_ok-extend.was).0) (at_ok checkpoints c.in_ok-extend-2.was).0 c.in_ok-add_numbers.ensures
