-- The controllers of a house as a list: one called by its number, one new at the end, all of them numbered.
use Rattle.std.proofs.Common.{◌≡◌, ℕ, ◌+◌, ◌<◌, false, List, [], ◌∷◌, ◌++◌, length, get_or, set, Some, Ok, Err, Result, sym, ap, ◌∙◌, subst, ⊎_elim, arith, length-append, get_or-set_same, MatchResult}
use Rattle.std.proofs.lemmas.Bool.Decides.{nat_tests}
use Rattle.std.proofs.lemmas.Bool.{cases_lt}
use Rattle.std.proofs.lemmas.List.{get_or_append_left, get_or_push}
use Rattle.quorum.specs.Sizes.{no_house}
use Rattle.house.specs.declared.opening.OpenFault.{OpenFault}
use Rattle.house.specs.declared.opening.OpenFault.TheVariants.{Refused, Memory}
use Rattle.house.specs.Members.{Answered, Grown, Numbered}
use Rattle.house.specs.Unopened.{Unopened}

pub by_number : {X R O : Type 0} (xs : List X) (outbox outbox_after : O) (i : ℕ) (x y : X) (r : R) (call : X → R → X → Type 0) →
    i < length xs → ((d : X) → x ≡ get_or xs i d) → call x r y → Answered xs (set xs i y) outbox outbox_after i call (Some r)
by_number {X} xs outbox outbox_after i x y r call h e a = (
  h,
  λ d. let P : X → Type 0 = λ z. call z r (get_or (set xs i y) i d) in
      let Q : X → Type 0 = λ z. call x r z in
      subst P (e d) (subst Q (sym (get_or-set_same xs i y d h)) a),
)

-- where a new one is added, or there is no memory for it
pub grows : {X U : Type 0} (r : Result U OpenFault) (before after : List X) (m : X) (is : X → Type 0) (n own : ℕ) →
    elim r as (λ x. Type 0) [ Ok u ↦ after ≡ before ++ m ∷ [] | Err e ↦ e ≡ Memory ] →
    no_house n own ≡ false → is m →
    MatchResult r (λ u. (no_house n own ≡ false) × Grown before after is) (λ e. Unopened n own e)
grows (Ok u) before after m is n own a h i = (h, (m, (a, i)))
grows (Err e) before after m is n own a h i = let P : OpenFault → Type 0 = λ x. Unopened n own x in subst P (sym a) h

pub numbered_none : {X : Type 0} (xs : List X) (is : ℕ → X → Type 0) → xs ≡ [] → Numbered xs 0 is
numbered_none xs is e = (ap length e, λ k d h. absurd (omega arith))

pub numbered_more : {X : Type 0} (before after : List X) (n : ℕ) (is : ℕ → X → Type 0) →
    Numbered before n is → Grown before after (is n) → Numbered after (n + 1) is
numbered_more {X} before after n is all grown =
    let x = grown.0 in
    let P : List X → Type 0 = λ ys. Numbered ys (n + 1) is in
    let below : (k : ℕ) (d : X) → k < n → is k (get_or (before ++ x ∷ []) k d) =
    λ k d h. let Q : X → Type 0 = λ z. is k z in
    subst Q (sym (get_or_append_left before (x ∷ []) d k (omega (arith, all.0)))) (all.1 k d h) in
    let last : (k : ℕ) (d : X) → n ≡ k → is k (get_or (before ++ x ∷ []) k d) =
    λ k d e. let Q : X → Type 0 = λ z. is k z in
    let R : ℕ → Type 0 = λ m. is m x in
    subst Q (sym (get_or_push before x d k (all.0 ∙ e))) (subst R e grown.1.1) in
    subst P (sym grown.1.0) (
      length-append before (x ∷ []) ∙ ap (λ (k : ℕ). k + 1) all.0,
      λ k d h. ⊎_elim (below k d) (λ up. last k d (omega arith)) (cases_lt k n),
    )

-- a house that is one has all its controllers
pub all_of_house : (n k : ℕ) → no_house n 0 ≡ false → k < n → no_house n k ≡ false
all_of_house n k e h = grind (arith, nat_tests)

-- so the fault of one is the house's
pub unopened_all : (n k : ℕ) (e : OpenFault) → no_house n 0 ≡ false → k < n → Unopened n k e → Unopened n 0 e
unopened_all n k (Refused why) a h u = (grind (arith, nat_tests), u.1)
unopened_all n k Memory a h u = a
