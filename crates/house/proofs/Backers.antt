-- A quorum of ballots for a digest is a quorum of controllers that cast one.
use Rattle.std.proofs.Common.{◌≡◌, ℕ, suc, ◌+◌, ◌-◌, ◌≤◌, Bool, true, false, cond, List, [], ◌∷◌, get_or, take, is_ok, Some, None, Ok, Err, Option, Result, sym, refl, ap, ◌∙◌, arith}
use Rattle.std.specs.List.{AllByRecursion}
use Rattle.std.proofs.ByRecursion.{All-weaker, All-take}
use Rattle.std.proofs.lemmas.List.{length-take-le}
use Rattle.std.proofs.lemmas.Bool.{false≢true}
use Rattle.wire.specs.declared.records.DigestValue.{DigestValue}
use Rattle.wire.specs.Values.{same_digest}
use Rattle.seal.proofs.Sameness.{same_digest_is}
use Rattle.quorum.specs.Sets.{Quorum}
use Rattle.quorum.proofs.Counting.{quorum_of}
use Rattle.group.specs.Group.{grouped}
use Rattle.group.proofs.Groups.{stood}
use Rattle.table.specs.declared.records.Ballot.{Ballot}
use Rattle.table.specs.declared.records.Ballots.{Ballots}
use Rattle.table.specs.declared.records.Vote.{Vote}
use Rattle.table.specs.Ballots.{vote_for, before, backers_from, backers, vote_signer, backed}

-- a vote for d among the ballots that begin with that of signer s
abbrev Cast : DigestValue → ℕ → List (Option Ballot) → Vote → Type 0
Cast d s xs v = (x : Ballot) × (s ≤ v.signer) × (get_or xs (v.signer - s) None ≡ Some x) × (x.digest ≡ d)

each : (d : DigestValue) (s : ℕ) (xs : List (Option Ballot)) → AllByRecursion (Cast d s xs) (backers_from d s xs)
each d s [] = tt
each d s (x ∷ xs) = first x (All-weaker (Cast d (s + 1) xs) (Cast d s (x ∷ xs)) up (backers_from d (s + 1) xs) (each d (s + 1) xs))
  where
    up : (v : Vote) → Cast d (s + 1) xs v → Cast d s (x ∷ xs) v
    up v c =
        let at : v.signer - s ≡ suc (v.signer - (s + 1)) = omega (arith, c.1) in
        (c.0, omega (arith, c.1), ap (λ n. get_or (x ∷ xs) n None) at ∙ c.2, c.3)

    first : (y : Option Ballot) → AllByRecursion (Cast d s (x ∷ xs)) (backers_from d (s + 1) xs) → AllByRecursion (Cast d s (x ∷ xs)) (before (vote_for d s x) (backers_from d (s + 1) xs))
    first y rest = head x refl
      where
        head : (y : Option Ballot) → x ≡ y → AllByRecursion (Cast d s (x ∷ xs)) (before (vote_for d s y) (backers_from d (s + 1) xs))
        head None h = rest
        head (Some b) h = go (same_digest b.digest d) refl
          where
            go : (t : Bool) → same_digest b.digest d ≡ t → AllByRecursion (Cast d s (x ∷ xs)) (before (cond t (Some (record { signer = s; digest = b.digest; seal = b.seal })) None) (backers_from d (s + 1) xs))
            go false e = rest
            go true e =
                let zero_at : s - s ≡ 0 = omega arith in
                ((b, omega arith, ap (λ n. get_or (x ∷ xs) n None) zero_at ∙ h, same_digest_is b.digest d e), rest)

pub backed_quorum : (n q : ℕ) (d : DigestValue) (b : Ballots) → backed n q d b ≡ true → Quorum n q (λ i. (x : Ballot) × (get_or b.of i None ≡ Some x) × (x.digest ≡ d))
backed_quorum n q d b e = go (grouped vote_signer (λ _. true) n q 0 0 (backers d b)) refl e
  where
    go : (r : Result ℕ ℕ) → grouped vote_signer (λ _. true) n q 0 0 (backers d b) ≡ r → is_ok r ≡ true → Quorum n q (λ i. (x : Ballot) × (get_or b.of i None ≡ Some x) × (x.digest ≡ d))
    go (Err i) h f = absurd (false≢true f)
    go (Ok p) h f =
        let st = stood vote_signer (λ _. true) n q 0 0 (backers d b) p h in
        let w = quorum_of vote_signer n q (Cast d 0 b.of) (take q (backers d b)) st.ascends (All-take (Cast d 0 b.of) q (backers d b) (each d 0 b.of)) (omega (arith, length-take-le q (backers d b) st.enough)) in
        record {
          «in» = w.«in»;
          enough = w.enough;
          each = λ i l h. let v = w.each i l h in let at : v.0.signer - 0 ≡ i = omega (arith, v.1) in (v.2.0, sym (ap (λ m. get_or b.of m None) at) ∙ v.2.2, v.2.3);
        }
