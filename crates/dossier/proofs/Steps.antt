-- One number more of the 32, and the bound of the base.
use Rattle.std.proofs.Common.{◌≡◌, ℕ, zero, suc, ◌+◌, ◌-◌, ◌%◌, ◌<◌, ◌≤◌, Bool, true, eqb, leb, List, [], ◌∷◌, ◌++◌, length, take, set, Ok, Err, fold, Result, sym, refl, ap, ◌∙◌, arith}
use Rattle.std.proofs.lemmas.List.{take_more_set}
use Rattle.std.proofs.lemmas.Bool.{and_parts, leb-true}
use Rattle.std.proofs.ByRecursion.{All-weaker}
use Rattle.std.specs.List.{AllByRecursion}
use Rattle.group.specs.Group.{grouped}
use Rattle.seal.specs.Records.{signer_of}
use Rattle.group.proofs.Groups.{stood}
use Rattle.wire.specs.declared.records.Statement.{Statement}
use Rattle.wire.specs.declared.records.Sealed.{Sealed}
use Rattle.dossier.specs.declared.parts.Terms.{Terms}
use Rattle.dossier.specs.declared.parts.Claim.{Claim}
use Rattle.dossier.specs.declared.tally.Found.{Found}
use Rattle.dossier.specs.Walk.{onward, found, numbers, larger, largest, stable_fits}
use Rattle.wire.specs.declared.kinds.Kind.TheVariants.{Stable}
use Rattle.wire.specs.Kinds.{same_kind}

module _ (accepts : Statement → ℕ → Bool) (terms : Terms) (rs ts : List Sealed) where
  pub numbers_done : (k s place : ℕ) (cs : List Claim) → k ≤ 0 → numbers accepts terms rs ts k s place cs ≡ Ok (record { value = cs; next = place })
  unfolding numbers
  numbers_done zero s place cs h = refl
  numbers_done (suc k) s place cs h = absurd (omega arith)

  more : (k s place : ℕ) (cs : List Claim) → 0 < k → numbers accepts terms rs ts k s place cs ≡ onward (found accepts terms rs ts s place) (λ f. numbers accepts terms rs ts (k - 1) (s + 1) f.next (cs ++ f.value ∷ []))
  unfolding numbers
  more zero s place cs h = absurd (omega arith)
  more (suc k) s place cs h =
      let less : k ≡ suc k - 1 = omega arith in
      ap (λ m. onward (found accepts terms rs ts s place) (λ f. numbers accepts terms rs ts m (s + 1) f.next (cs ++ f.value ∷ []))) less

  pub numbers_stop : (k s place : ℕ) (cs : List Claim) (r : Result (Found Claim) ℕ) (out all : Result (Found (List Claim)) ℕ) (i j : ℕ) → 0 < k → r ≡ found accepts terms rs ts s place → r ≡ Err i → out ≡ Err j → j ≡ i → numbers accepts terms rs ts k s place cs ≡ all → out ≡ all
  numbers_stop k s place cs r out all i j h e g eo ej ea =
      eo ∙ ap Err ej ∙ sym (more k s place cs h ∙ ap (λ o. onward o (λ f. numbers accepts terms rs ts (k - 1) (s + 1) f.next (cs ++ f.value ∷ []))) (sym e ∙ g)) ∙ ea

  pub numbers_more : (s k place place'' : ℕ) (cs cs'' : List Claim) (r : Result (Found Claim) ℕ) (f : Found Claim) → k < 32 → length cs ≡ 32 → r ≡ found accepts terms rs ts (s + k) place → r ≡ Ok f → cs'' ≡ set cs k f.value → place'' ≡ f.next
      → numbers accepts terms rs ts (32 - (k + 1)) (s + (k + 1)) place'' (take (k + 1) cs'') ≡ numbers accepts terms rs ts (32 - k) (s + k) place (take k cs)
  numbers_more s k place place'' cs cs'' r f lt len e g ec ep =
      let a : 32 - (k + 1) ≡ 32 - k - 1 = omega arith in
      let b : s + (k + 1) ≡ s + k + 1 = omega arith in
      let inside : k < length cs = omega arith in
      let d = ap (take (k + 1)) ec ∙ take_more_set cs k f.value inside in
      (λ i. numbers accepts terms rs ts (a i) (b i) (ep i) (d i))
      ∙ sym (more (32 - k) (s + k) place (take k cs) (omega arith) ∙ ap (λ o. onward o (λ f. numbers accepts terms rs ts (32 - k - 1) (s + k + 1) f.next (take k cs ++ f.value ∷ []))) (sym e ∙ g))

-- no stable number passes a bound that each keeps
pub largest_below : (m b : ℕ) (ts : List Sealed) → b ≤ m → AllByRecursion (λ t. t.statement.number ≤ m) ts → fold larger b ts ≤ m
largest_below m b [] h a = h
largest_below m b (t ∷ ts) h a = largest_below m (larger b t) ts (omega (arith, a.0)) a.1

pub stable_low : (accepts : Statement → ℕ → Bool) (terms : Terms) (t : Sealed) → stable_fits accepts terms t ≡ true → t.statement.number ≤ 1000000000000
stable_low accepts terms t h =
    let st = t.statement in
    let a = and_parts (same_kind st.kind Stable) _ h in
    let b = and_parts (eqb st.epoch terms.epoch) _ a.1 in
    let c = and_parts (eqb (st.number % 16) 0) _ b.1 in
    leb-true _ _ (and_parts (leb st.number 1000000000000) _ c.1).0

pub stables_enough : (accepts : Statement → ℕ → Bool) (terms : Terms) (rs : List Sealed) (r : Result ℕ ℕ) (p : ℕ) → r ≡ grouped signer_of (stable_fits accepts terms) terms.threshold.n terms.threshold.q 0 0 rs → r ≡ Ok p → (terms.threshold.q ≤ length rs) × (largest (take terms.threshold.q rs) ≤ 1000000000000)
stables_enough accepts terms rs r p e f =
    let w = stood signer_of (stable_fits accepts terms) terms.threshold.n terms.threshold.q 0 0 rs p (sym e ∙ f) in
    (w.enough, largest_below 1000000000000 0 (take terms.threshold.q rs) (omega arith) (All-weaker _ _ (stable_low accepts terms) (take terms.threshold.q rs) w.passes))
