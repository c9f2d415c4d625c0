use Rattle.std.proofs.Common.{ℕ, ◌-◌, ◌^◌, ◌<◌, min, ap, ◌∙◌, sym, subst, arith}
use lib.Bits.{bit_or}
use Rattle.std.proofs.lemmas.Nat.{one_shl}
use Rattle.window.specs.Marked.{free_range, put_fitted}
use Rattle.window.proofs.span.Span.mark.Goals as goal

pub settle-requires : goal.settle-requires
settle-requires c =
    let s = c.args.self.now in
    let t = c.args.timestamp in
    let is = c.in-Some.ensures.0 in
    let k : ℕ = c.in-Some.bit in
    let r = free_range s t is in
    let small : k < 64 = omega (arith, r.0, r.1, c.in-Some.ensures.1) in
    subst (λ n. bit_or s.marks n < 2 ^ min 64 (4294967295 - s.base)) (sym (one_shl k 64 small ∙ ap (λ n. 2 ^ n) c.in-Some.ensures.1)) (put_fitted s t is c.requires)
