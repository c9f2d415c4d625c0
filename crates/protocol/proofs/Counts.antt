-- How many members a leader set has among the controllers from 0 on.
use Rattle.std.proofs.Common.{◌≡◌, ℕ, zero, suc, ◌+◌, Bool, true, false, cond, List, ◌∷◌, length, filter, ap, arith}
use Rattle.std.specs.List.{range_with_len}
use Rattle.quorum.specs.Sets.{count, one}

one_more : (b : Bool) (a : ℕ) (xs : List ℕ) → length (cond b (a ∷ xs) xs) ≡ one b + length xs
one_more true a xs = omega arith
one_more false a xs = omega arith

-- those from a on come to those below a
counted_from : (p : ℕ → Bool) (a n : ℕ) → length (filter p (range_with_len a n)) + count p a ≡ count p (a + n)
counted_from p a zero = let e : a ≡ a + 0 = omega arith in omega (arith, ap (count p) e)
counted_from p a (suc n) =
    let at : a + 1 + n ≡ a + suc n = omega arith in
    let next : a + 1 ≡ suc a = omega arith in
    omega (arith, counted_from p (a + 1) n, one_more (p a) a (filter p (range_with_len (a + 1) n)), ap (count p) at, ap (count p) next)

pub count_below : (p : ℕ → Bool) (n : ℕ) → length (filter p (range_with_len 0 n)) ≡ count p n
count_below p n = let e : 0 + n ≡ n = omega arith in omega (arith, counted_from p 0 n, ap (count p) e)
