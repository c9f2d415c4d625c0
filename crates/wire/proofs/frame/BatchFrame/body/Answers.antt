use Rattle.std.proofs.Common.{drop, ap, ◌∙◌}
use Rattle.std.proofs.lemmas.List.{take_rest}
use Rattle.wire.proofs.Puts.{drop_min}
use Rattle.wire.proofs.frame.BatchFrame.body.Goals as goal

pub returns : goal.returns
returns c =
    let all = c.as_bytes-all.result.now in
    take_rest all c.min-from.result ∙ (ap (λ n. drop n all) c.min-from.ensures ∙ (drop_min 4 all ∙ ap (drop 4) c.as_bytes-all.ensures))
