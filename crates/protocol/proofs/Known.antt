-- The requests of a batch and of the places.
use Rattle.std.proofs.Common.{◌≡◌, ℕ, suc, ◌+◌, ◌-◌, ◌<◌, ◌≤◌, Bool, true, false, ◌&&◌, ◌||◌, ltb, List, [], ◌∷◌, length, get_or, take, drop, Some, None, sym, refl, ap, ◌∙◌, arith}
use Rattle.std.specs.List.{list_any}
use Rattle.std.proofs.Math.Seq.{drop-nil}
use Rattle.std.proofs.lemmas.List.{at_drop_more, at_drop_all}
use Rattle.std.proofs.lemmas.List.Recursion.{same_from_clauses}
use Rattle.std.proofs.lemmas.Bool.{cond-true, cond-false, ltb-true, ltb-false}
use Rattle.wire.specs.declared.records.Request.{Request}
use Rattle.table.specs.declared.records.Place.{Place}
use Rattle.wire.specs.declared.records.DigestValue.{DigestValue}
use Rattle.wire.specs.declared.records.Statement.{Statement}
use Rattle.protocol.specs.declared.records.Core.{Core}
use Rattle.protocol.specs.Offer.{same_request, has_request, in_batch, known_from, bad_request, first_bad}

pub any_same : (r : Request) (xs : List Request) → list_any (λ x. same_request x r) xs ≡ has_request xs r
any_same r = same_from_clauses (list_any (λ x. same_request x r)) (λ xs. has_request xs r) (λ x b. same_request x r || b) refl (λ _ _. refl) (λ _ _. refl)

abbrev left : Request → ℕ → List Place → Bool
left r n ps = list_any (λ (p : Place). in_batch p.batch r) (drop n ps)

-- the places of the numbers above d are those past the first d - s
pub any_known : (s d : ℕ) (r : Request) (ps : List Place) → list_any (λ p. in_batch p.batch r) (drop (d - s) ps) ≡ known_from (s + 1) d r ps
any_known s d r [] = ap (list_any (λ (p : Place). in_batch p.batch r)) (drop-nil (d - s))
any_known s d r (p ∷ ps) = go (ltb d (s + 1)) refl (any_known (s + 1) d r ps)
  where
    go : (b : Bool) → ltb d (s + 1) ≡ b → left r (d - (s + 1)) ps ≡ known_from (s + 1 + 1) d r ps → left r (d - s) (p ∷ ps) ≡ ((b && in_batch p.batch r) || known_from (s + 1 + 1) d r ps)
    go true e ih =
        let low = ltb-true d (s + 1) e in
        let now : d - s ≡ 0 = omega arith in
        let next : 0 ≡ d - (s + 1) = omega arith in
        ap (λ n. left r n (p ∷ ps)) now ∙ ap (λ b. in_batch p.batch r || b) (ap (λ n. left r n ps) next ∙ ih)
    go false e ih =
        let high = ltb-false d (s + 1) e in
        let now : d - s ≡ suc (d - (s + 1)) = omega arith in
        ap (λ n. left r n (p ∷ ps)) now ∙ ih

module _ (accepts : Statement → ℕ → Bool) (value : List ℕ → DigestValue) (c : Core) (s : ℕ) (all : List Request) where
  pub bad_found : (i : ℕ) (d : Request) → i < length all → bad_request accepts value c s (take i all) (get_or all i d) ≡ true
      → first_bad accepts value c s all i (drop i all) ≡ Some i
  bad_found i d h e =
      at_drop_more (first_bad accepts value c s all i) all i d h
      ∙ cond-true (bad_request accepts value c s (take i all) (get_or all i d)) (Some i) (first_bad accepts value c s all (i + 1) (drop (i + 1) all)) e

  pub bad_more : (i : ℕ) (d : Request) → i < length all → bad_request accepts value c s (take i all) (get_or all i d) ≡ false
      → first_bad accepts value c s all (i + 1) (drop (i + 1) all) ≡ first_bad accepts value c s all i (drop i all)
  bad_more i d h e =
      sym (at_drop_more (first_bad accepts value c s all i) all i d h
      ∙ cond-false (bad_request accepts value c s (take i all) (get_or all i d)) (Some i) (first_bad accepts value c s all (i + 1) (drop (i + 1) all)) e)

  pub bad_none : (i : ℕ) → length all ≤ i → first_bad accepts value c s all i (drop i all) ≡ None
  bad_none i h = at_drop_all (first_bad accepts value c s all i) all i h
