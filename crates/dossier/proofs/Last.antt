-- The last place at which a test passes, as the definitions look for it: from the front, with the last so far.
use Rattle.std.proofs.Common.{◌≡◌, ℕ, zero, suc, ◌+◌, ◌<◌, Bool, true, false, cond, List, [], ◌∷◌, length, get_or, Some, None, Option, MatchOption, ltb, sym, refl, ap, ◌∙◌, arith}
use Rattle.std.specs.Option.{unwrap_or}
use Rattle.wire.specs.declared.records.Sealed.{Sealed}
use Rattle.seal.specs.Records.{none}
use Rattle.dossier.specs.declared.parts.Claim.{Claim}
use Rattle.dossier.specs.Walk.{asked, last_asked, reach, no_claim}

-- a test passes at a place of a list and at none after it
pub record LastAt {X : Type 0} (test : X → Bool) (xs : List X) (d : X) (i : ℕ) : Type 0 where
  pub inside : i < length xs
  pub passes : test (get_or xs i d) ≡ true
  pub none_after : (k : ℕ) → i < k → k < length xs → test (get_or xs k d) ≡ false

-- it passes nowhere
abbrev pub Nowhere : {X : Type 0} → (X → Bool) → List X → X → Type 0
Nowhere test xs d = (k : ℕ) → k < length xs → test (get_or xs k d) ≡ false

-- a search that keeps, from place j on, the value of the last place so far
module _ {X : Type 0} (test : X → Bool) (value : ℕ → ℕ) (find : ℕ → ℕ → List X → ℕ) (d : X)
    (at_end : (j last : ℕ) → find j last [] ≡ last)
    (onward : (j last : ℕ) (x : X) (xs : List X) → find j last (x ∷ xs) ≡ find (j + 1) (cond (test x) (value j) last) xs) where
  stays : (j last : ℕ) (xs : List X) → Nowhere test xs d → find j last xs ≡ last
  stays j last [] never = at_end j last
  stays j last (x ∷ xs) never =
      onward j last x xs ∙ ap (λ b. find (j + 1) (cond b (value j) last) xs) (never 0 (omega arith))
      ∙ stays (j + 1) last xs (λ k h. never (suc k) (omega arith))

  finds : (j last : ℕ) (xs : List X) (i : ℕ) → LastAt test xs d i → find j last xs ≡ value (j + i)
  finds j last [] i at = absurd (omega (arith, at.inside))
  finds j last (x ∷ xs) zero at =
      onward j last x xs ∙ ap (λ b. find (j + 1) (cond b (value j) last) xs) at.passes
      ∙ stays (j + 1) (value j) xs (λ k h. at.none_after (suc k) (omega arith) (omega arith)) ∙ ap value (omega arith)
  finds j last (x ∷ xs) (suc i) at =
      onward j last x xs
      ∙ finds (j + 1) (cond (test x) (value j) last) xs i (record { inside = omega (arith, at.inside); passes = at.passes; none_after = λ k l h. at.none_after (suc k) (omega arith) (omega arith) })
      ∙ ap value (omega arith)

-- what `rposition` says of the test, and what the definitions then find
abbrev pub Looked : {X : Type 0} → (X → Bool) → List X → X → Option ℕ → Type 0
Looked test xs d r = MatchOption r (Nowhere test xs d) (LastAt test xs d)

pub last_asked_is : (s : ℕ) (ts : List Sealed) (r : Option ℕ) → Looked (asked s) ts none r → unwrap_or r 0 ≡ last_asked s 0 0 ts
last_asked_is s ts (Some i) at = sym (finds (asked s) (λ j. j) (last_asked s) none (λ _ _. refl) (λ _ _ _ _. refl) 0 0 ts i at ∙ omega arith)
last_asked_is s ts None never = sym (stays (asked s) (λ j. j) (last_asked s) none (λ _ _. refl) (λ _ _ _ _. refl) 0 0 ts never)

pub reach_is : (cs : List Claim) (r : Option ℕ) → Looked (λ c. ltb 0 c.epoch) cs no_claim r → (n : ℕ) → MatchOption r (n ≡ 0) (λ i. n ≡ i + 1) → n ≡ reach 0 0 cs
reach_is cs (Some i) at n is = is ∙ sym (finds (λ c. ltb 0 c.epoch) (λ j. j + 1) reach no_claim (λ _ _. refl) (λ _ _ _ _. refl) 0 0 cs i at ∙ omega arith)
reach_is cs None never n is = is ∙ sym (stays (λ c. ltb 0 c.epoch) (λ j. j + 1) reach no_claim (λ _ _. refl) (λ _ _ _ _. refl) 0 0 cs never)
