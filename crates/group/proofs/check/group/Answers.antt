use Rattle.std.proofs.Common.{◌≡◌, ◌+◌, ◌-◌, Ok, Err, drop, get_or, length, sym, ap, ◌∙◌, arith}
use Rattle.std.proofs.lemmas.List.{get_or-take, length-take}
use Rattle.std.proofs.lemmas.Bool.Decides.{nat_tests}
use Rattle.group.specs.Group.{grouped}
use Rattle.group.proofs.Groups.{group_none, group_past, group_at}
use Rattle.group.proofs.check.group.Goals as goal

pub loop-i-init : goal.loop-i-init
loop-i-init g c =
    let all : c.args.threshold.q - 0 ≡ c.args.threshold.q = omega arith in
    let same : c.args.from + 0 ≡ c.args.from = omega arith in
    (omega arith, λ z. grouped g.T.Signed.names (g.R.Rule.allows c.args.rule.now) c.args.threshold.n (all z) (same z) 0 (c.tail-rest.ensures z))

pub returns-then-s-least : goal.returns-then-s-least
returns-then-s-least g c =
    let rest = c.tail-rest.result.now in
    let i = c.loop-i.i in
    let x = c.x-item.result in
    let read : x ≡ get_or rest i x = c.x-item.is ∙ get_or-take c.min.result rest i x (omega (arith, length-take c.min.result rest)) in
    let step = group_at g.T.Signed.names (g.R.Rule.allows c.args.rule.now) c.args.threshold.n (c.args.threshold.q - i) (c.args.from + i) c.loop-i.least i rest x c.signer-s.result (omega (arith, length-take c.min.result rest)) (omega (arith, length-take c.min.result rest)) read c.signer-s.ensures in
    grind (arith, nat_tests)

pub loop-i-preserved : goal.loop-i-preserved
loop-i-preserved g c =
    let rest = c.tail-rest.result.now in
    let i = c.loop-i.i in
    let x = c.x-item.result in
    let read : x ≡ get_or rest i x = c.x-item.is ∙ get_or-take c.min.result rest i x (omega (arith, length-take c.min.result rest)) in
    let step = group_at g.T.Signed.names (g.R.Rule.allows c.args.rule.now) c.args.threshold.n (c.args.threshold.q - i) (c.args.from + i) c.loop-i.least i rest x c.signer-s.result (omega (arith, length-take c.min.result rest)) (omega (arith, length-take c.min.result rest)) read c.signer-s.ensures in
    let left : c.args.threshold.q - i - 1 ≡ c.args.threshold.q - (i + 1) = omega arith in
    let place : c.args.from + i + 1 ≡ c.args.from + (i + 1) = omega arith in
    (omega arith, grind (arith, nat_tests))

pub returns-then-rest-threshold : goal.returns-then-rest-threshold
returns-then-rest-threshold g c =
    let rest = c.tail-rest.result.now in
    let i = c.loop-i.i in
    let all : i ≡ length rest = omega (arith, length-take c.min.result rest) in
    ap (λ k. Err (c.args.from + k)) (sym all)
    ∙ (sym (group_past g.T.Signed.names (g.R.Rule.allows c.args.rule.now) c.args.threshold.n (c.args.threshold.q - i) (c.args.from + i) c.loop-i.least i rest (omega arith) (omega arith)) ∙ c.loop-i.invariant.1)

pub returns : goal.returns
returns g c =
    let rest = c.tail-rest.result.now in
    let i = c.loop-i.i in
    let all : i ≡ c.args.threshold.q = omega (arith, length-take c.min.result rest) in
    ap (λ k. Ok (c.args.from + k)) (sym all)
    ∙ (sym (group_none g.T.Signed.names (g.R.Rule.allows c.args.rule.now) c.args.threshold.n (c.args.threshold.q - i) (c.args.from + i) c.loop-i.least (drop i rest) (omega arith)) ∙ c.loop-i.invariant.1)
