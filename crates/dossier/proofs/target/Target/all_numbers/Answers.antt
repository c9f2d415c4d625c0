use Rattle.std.proofs.Common.{◌+◌, ◌-◌, Ok, sym, refl, ap, ◌∙◌, arith, length-set}
use Rattle.std.proofs.lemmas.List.{take_all}
use Rattle.std.proofs.lemmas.Result.{err_from_is_err_and}
use Rattle.dossier.proofs.Steps.{numbers_done, numbers_stop, numbers_more}
use Rattle.dossier.proofs.target.Target.all_numbers.Goals as goal

pub returns-in_err-found : goal.returns-in_err-found
returns-in_err-found g c =
    let p = err_from_is_err_and c.from_residual.result c.from_residual.ensures.1 in
    numbers_stop _ _ _ _ (32 - c.loop-k.k) _ _ _ c.number.result _ _ _ _ (omega arith) c.number.ensures c.in_err-found.was p.1 p.2 c.loop-k.invariant.1

pub loop-k-preserved : goal.loop-k-preserved
loop-k-preserved g c = (
  length-set c.loop-k.claim-items c.loop-k.k c.in_ok-found.found.value ∙ c.loop-k.invariant.0,
  numbers_more _ _ _ _ (c.args.base + 1) c.loop-k.k _ _ c.loop-k.claim-items _ c.number.result c.in_ok-found.found (omega arith) c.loop-k.invariant.0 c.number.ensures c.in_ok-found.was refl refl ∙ c.loop-k.invariant.1,
)

pub returns : goal.returns
returns g c =
    ap (λ cs. Ok (record { value = cs; next = c.loop-k.next })) (sym (take_all c.loop-k.k c.loop-k.claim-items (omega (arith, c.loop-k.invariant.0))))
    ∙ sym (numbers_done _ _ _ _ (32 - c.loop-k.k) _ _ _ (omega arith))
    ∙ c.loop-k.invariant.1
