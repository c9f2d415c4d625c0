-- What the first highest of several partings is.
use Rattle.std.proofs.Common.{◌≡◌, ℕ, ◌+◌, ◌-◌, ◌<◌, ◌≤◌, max, ◌&&◌, ltb, leb, ◌⊎◌, List, [], ◌∷◌, map, length, get_or, take, fold, refl, ap, ◌∙◌, inr, arith}
use Rattle.std.specs.List.{flat_map, AllByRecursion}
use Rattle.std.proofs.lemmas.List.{drop_all, drop_more}
use Rattle.std.proofs.lemmas.Bool.{ltb-true, ltb-false, cond_both, cond-true, cond-false, and_from, and_right, lt-ltb, le-leb, lt-leb}
use Rattle.wire.specs.declared.records.Sealed.{Sealed}
use Rattle.seal.specs.Records.{none}
use Rattle.dossier.specs.Walk.{larger}
use Rattle.host.specs.Partings.{one_at, stable_in, held_in, higher}

module _ (key : List Sealed → ℕ) where
  -- what holds of all holds of it
  pub highest_keeps : (Q : List Sealed → Type 0) (best : List Sealed) (ps : List (List Sealed)) → Q best → AllByRecursion Q ps → Q (fold (higher key) best ps)
  highest_keeps Q best [] b a = b
  highest_keeps Q best (p ∷ ps) b a =
      highest_keeps Q (higher key best p) ps (cond_both (ltb (key best) (key p)) p best Q (λ _. a.0) (λ _. b)) a.1

  -- it has a number above 0, or it is nobody's
  pub highest_or_none : (best : List Sealed) (ps : List (List Sealed)) → (best ≡ []) ⊎ (0 < key best)
      → (fold (higher key) best ps ≡ []) ⊎ (0 < key (fold (higher key) best ps))
  highest_or_none best [] h = h
  highest_or_none best (p ∷ ps) h =
      highest_or_none (higher key best p) ps
      (cond_both (ltb (key best) (key p)) p best (λ x. (x ≡ []) ⊎ (0 < key x)) (λ e. inr (omega (arith, ltb-true (key best) (key p) e))) (λ _. h))

  -- no number is above it
  pub highest_from : (best : List Sealed) (ps : List (List Sealed)) → key best ≤ key (fold (higher key) best ps)
  highest_from best [] = omega arith
  highest_from best (p ∷ ps) =
      let more : key best ≤ key (higher key best p) = cond_both (ltb (key best) (key p)) p best (λ x. key best ≤ key x) (λ e. omega (arith, ltb-true (key best) (key p) e)) (λ _. omega arith) in
      omega (arith, highest_from (higher key best p) ps)

  pub highest_above : (best : List Sealed) (ps : List (List Sealed)) → AllByRecursion (λ p. key p ≤ key (fold (higher key) best ps)) ps
  highest_above best [] = tt
  highest_above best (p ∷ ps) =
      let more : key p ≤ key (higher key best p) = cond_both (ltb (key best) (key p)) p best (λ x. key p ≤ key x) (λ _. omega arith) (λ e. omega (arith, ltb-false (key best) (key p) e)) in
      (omega (arith, highest_from (higher key best p) ps), highest_above (higher key best p) ps)

-- the first record
abbrev pub head_of : List Sealed → Sealed
head_of p = get_or p 0 none

-- its stable number is the largest that the walk finds
pub largest_is : (best : List Sealed) (ps : List (List Sealed)) → fold larger (stable_in best) (map head_of ps) ≡ stable_in (fold (higher stable_in) best ps)
largest_is best [] = refl
largest_is best (p ∷ ps) =
    let one : max (stable_in best) (stable_in p) ≡ stable_in (higher stable_in best p) =
    cond_both (ltb (stable_in best) (stable_in p)) p best (λ x. max (stable_in best) (stable_in p) ≡ stable_in x)
    (λ e. omega (arith, ltb-true (stable_in best) (stable_in p) e)) (λ e. omega (arith, ltb-false (stable_in best) (stable_in p) e)) in
    ap (λ h. fold larger h (map head_of ps)) one ∙ largest_is (higher stable_in best p) ps

-- partings that have a first record
pub heads_are : (ps : List (List Sealed)) → AllByRecursion (λ p. 0 < length p) ps → flat_map (one_at 0) ps ≡ map head_of ps
heads_are [] a = refl
heads_are ([] ∷ ps) a = let z : 0 < 0 = a.0 in absurd (omega arith)
heads_are ((r ∷ rs) ∷ ps) a = ap (λ ts. r ∷ ts) (heads_are ps a.1)

-- a number that is none of the 32, and one that is
pub held_none : (s : ℕ) (p : List Sealed) → stable_in p + 32 < s → held_in s p ≡ []
held_none s p h = cond-false _ _ _ (and_right (ltb (stable_in p) s) _ (lt-leb s (stable_in p + 32) h))

pub held_one_of : (s : ℕ) (p : List Sealed) → stable_in p < s → s ≤ stable_in p + 32 → s - stable_in p < length p → held_in s p ≡ get_or p (s - stable_in p) none ∷ []
held_one_of s p low high there =
    cond-true _ _ _ (and_from _ _ (lt-ltb (stable_in p) s low) (le-leb s (stable_in p + 32) high)) ∙ ap (take 1) (drop_more p (s - stable_in p) none there)

pub held_of_none : (s : ℕ) → held_in s [] ≡ []
held_of_none s = cond_both (ltb 0 s && leb s (0 + 32)) (one_at (s - 0) []) [] (λ x. x ≡ []) (λ _. ap (take 1) (drop_all (s - 0) [] (omega arith))) (λ _. refl)
