use Rattle.std.proofs.Common.{◌≡◌, ◌+◌, None, sym, ap, ◌∙◌, arith, rules, tests}
use Rattle.dossier.specs.Walk.{chosen}
use Rattle.protocol.specs.Enter.{choices}
use Rattle.controller.proofs.Chosen.{made_by, choices_map}
use Rattle.controller.proofs.enter.choices.Goals as goal

pub returns : goal.returns
returns c =
    let o = c.args.opened.now in
    let s = c.args.s in
    let e : s ≡ s + 0 = omega arith in
    made_by _ _ c.from_fn.result (λ k. chosen o (s + k)) None 32 (λ k y q h. search (rules, tests)) c.from_fn.ensures.items
    ∙ (sym (choices_map o s 32 0) ∙ sym (ap (λ n. choices o n 32) e))
