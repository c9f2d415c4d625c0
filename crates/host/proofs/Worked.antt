-- The worked partings are true ones: by trying each of their 32 numbers.
use Rattle.std.proofs.Common.{◌≡◌, ℕ, zero, suc, ◌+◌, ◌-◌, ◌<◌, ◌≤◌, Bool, true, false, not, ◌&&◌, ◌||◌, eqb, ltb, List, [], length, get_or, Ok, Err, Result, refl, ap, ◌∙◌, subst, inl, inr, arith, lit<}
use Rattle.std.proofs.lemmas.Bool.{cases_lt, cases_eq, and_parts, and_left, or_cases, not-true, cond-false, lt-ltb, le-ltb, eqb-true, both_ways}
use Rattle.wire.specs.Values.{same_digest}
use Rattle.wire.specs.declared.records.Sealed.{Sealed}
use Rattle.seal.specs.Records.{none, signer_of}
use Rattle.seal.proofs.Sameness.{same_digest_is}
use Rattle.group.specs.Group.{grouped, exactly}
use Rattle.dossier.specs.Walk.{held_fits}
use Rattle.dossier.specs.Cases.{fives}
use Rattle.host.specs.Partings.{first_of, stable_in, held_in, claim_in, claimed_epoch, prepares_in}
use Rattle.host.specs.Laws.{Quorum, Claims}
use Rattle.host.specs.Cases.{in_epoch_3, certified, parting_0, parting_1, parting_3, Premises}
use Rattle.host.proofs.Highest.{held_none}
use Rattle.wire.specs.declared.kinds.Kind.TheVariants.{Prepare}

-- a test of each number below k
abbrev all_below : ℕ → (ℕ → Bool) → Bool
all_below zero f = true
all_below (suc k) f = f k && all_below k f

each_below : (k : ℕ) (f : ℕ → Bool) → all_below k f ≡ true → (i : ℕ) → i < k → f i ≡ true
each_below zero f e i h = absurd (omega arith)
each_below (suc k) f e i h =
    let both = and_parts (f k) (all_below k f) e in
    elim (cases_eq i k) [ inl same ↦ ap f same ∙ both.0 | inr other ↦ each_below k f both.1 i (omega arith) ]

abbrev ends_at_3 : Result ℕ ℕ → Bool
ends_at_3 (Ok n) = eqb n 3
ends_at_3 (Err n) = false

ended : (r : Result ℕ ℕ) → ends_at_3 r ≡ true → r ≡ Ok 3
ended (Ok n) e = ap Ok (eqb-true n 3 e)
ended (Err n) e = absurd cc

abbrev quorum_test : (Sealed → Bool) → List Sealed → Bool
quorum_test allows rs = eqb (length rs) 3 && ends_at_3 (grouped signer_of allows 4 3 0 0 rs)

quorum_shown : (allows : Sealed → Bool) (rs : List Sealed) → quorum_test allows rs ≡ true → Quorum in_epoch_3 allows rs
quorum_shown allows rs e =
    let both = and_parts (eqb (length rs) 3) _ e in
    record { long = eqb-true (length rs) 3 both.0; stands = ended _ both.1 }

abbrev claim_test : List Sealed → ℕ → Bool
claim_test p s =
    let r = get_or p (s - stable_in p) none in
    held_fits 3 s (first_of p).signer r.statement && (eqb r.seal 5 && same_digest r.statement.digest (certified r.statement.held s))

abbrev prepares_test : List Sealed → ℕ → Bool
prepares_test p s = not (ltb 0 (claimed_epoch s p)) || quorum_test (exactly fives Prepare (claimed_epoch s p) s (claim_in s p).digest) (prepares_in s p)

module _ (p : List Sealed) where
  claims_shown : all_below 32 (λ i. claim_test p (stable_in p + 1 + i)) ≡ true → (s : ℕ) → stable_in p < s → s ≤ stable_in p + 32
      → Claims fives in_epoch_3 certified (first_of p).signer s (get_or p (s - stable_in p) none)
  claims_shown e s low high =
      let i = s - (stable_in p + 1) in
      let is : stable_in p + 1 + i ≡ s = omega arith in
      let held : claim_test p s ≡ true = subst (λ n. claim_test p n ≡ true) is (each_below 32 (λ j. claim_test p (stable_in p + 1 + j)) e i (omega arith)) in
      let r = get_or p (s - stable_in p) none in
      let a = and_parts (held_fits 3 s (first_of p).signer r.statement) _ held in
      let b = and_parts (eqb r.seal 5) _ a.1 in
      record { fits = a.0; genuine = b.0; one_digest = same_digest_is r.statement.digest (certified r.statement.held s) b.1 }

  prepares_shown : all_below 32 (λ i. prepares_test p (stable_in p + 1 + i)) ≡ true → (s : ℕ) → 0 < claimed_epoch s p
      → Quorum in_epoch_3 (exactly fives Prepare (claimed_epoch s p) s (claim_in s p).digest) (prepares_in s p)
  prepares_shown e s some =
      elim (cases_lt (stable_in p) s) [
        | inl low ↦ elim (cases_lt (stable_in p + 32) s) [
          | inl far ↦ let none_held : claimed_epoch s p ≡ 0 = ap (λ l. (first_of l).held) (held_none s p far) in absurd (omega arith)
          | inr near ↦
              let i = s - (stable_in p + 1) in
              let is : stable_in p + 1 + i ≡ s = omega arith in
              let held : prepares_test p s ≡ true = subst (λ n. prepares_test p n ≡ true) is (each_below 32 (λ j. prepares_test p (stable_in p + 1 + j)) e i (omega arith)) in
              elim (or_cases (not (ltb 0 (claimed_epoch s p))) _ held) [
                | inl nobody ↦ absurd (both_ways (ltb 0 (claimed_epoch s p)) (not-true _ nobody) (lt-ltb 0 (claimed_epoch s p) some))
                | inr quorum ↦ quorum_shown _ _ quorum
              ]
        ]
        | inr up_to_lem ↦
            let gone : held_in s p ≡ [] = cond-false _ _ _ (and_left (ltb (stable_in p) s) _ (le-ltb (stable_in p) s up_to_lem)) in
            let none_held : claimed_epoch s p ≡ 0 = ap (λ l. (first_of l).held) gone in
            absurd (omega arith)
      ]

pub premises : Premises
unfolding grouped same_digest
premises = record {
  no_epoch = λ s. refl;
  stables = record { long = refl; stands = refl };
  first = record {
    there = lit< tt;
    reaches = λ s low high. omega arith;
    claims = claims_shown parting_0 refl;
    checkpoints = λ _. record { long = refl; stands = refl };
    prepares = prepares_shown parting_0 refl;
  };
  second = record {
    there = lit< tt;
    reaches = λ s low high. omega arith;
    claims = claims_shown parting_1 refl;
    checkpoints = λ _. record { long = refl; stands = refl };
    prepares = prepares_shown parting_1 refl;
  };
  third = record {
    there = lit< tt;
    reaches = λ s low high. omega arith;
    claims = claims_shown parting_3 refl;
    checkpoints = λ z. absurd (omega arith);
    prepares = prepares_shown parting_3 refl;
  };
}
