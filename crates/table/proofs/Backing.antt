-- The votes for a digest, signer by signer.
use Rattle.std.proofs.Common.{◌≡◌, ℕ, suc, ◌+◌, ◌-◌, ◌<◌, ◌≤◌, List, [], ◌∷◌, ◌++◌, length, get_or, take, set, replicate, Some, None, Option, sym, refl, ap, ◌∙◌, append_assoc, append-nil, arith, subst, nat_lt}
use Rattle.std.proofs.lemmas.Bool.{cond-true, lt-ltb}
use Rattle.std.proofs.lemmas.List.{take_more, set_at, length-append, length-take-le}
use Rattle.wire.specs.declared.records.DigestValue.{DigestValue}
use Rattle.table.specs.declared.records.Ballot.{Ballot}
use Rattle.table.specs.declared.records.Vote.{Vote}
use Rattle.table.specs.declared.records.Votes.{Votes}
use Rattle.table.specs.Ballots.{vote_for, before, backers_from, no_vote, listed, with_vote}

before_append : (v : Option Vote) (xs ys : List Vote) → before v (xs ++ ys) ≡ before v xs ++ ys
before_append None xs ys = refl
before_append (Some v) xs ys = refl

backers_push : (d : DigestValue) (s : ℕ) (xs : List (Option Ballot)) (x : Option Ballot) → backers_from d s (xs ++ x ∷ []) ≡ backers_from d s xs ++ before (vote_for d (s + length xs) x) []
backers_push d s [] x = let e : s ≡ s + 0 = omega arith in ap (λ m. before (vote_for d m x) []) e
backers_push d s (y ∷ ys) x =
    let at : s + 1 + length ys ≡ s + length (y ∷ ys) = omega arith in
    ap (before (vote_for d s y)) (backers_push d (s + 1) ys x ∙ ap (λ m. backers_from d (s + 1) ys ++ before (vote_for d m x) []) at)
    ∙ before_append (vote_for d s y) (backers_from d (s + 1) ys) _

-- one signer more
pub backers_more : (d : DigestValue) (xs : List (Option Ballot)) (i : ℕ) → i < length xs → backers_from d 0 (take (i + 1) xs) ≡ backers_from d 0 (take i xs) ++ before (vote_for d i (get_or xs i None)) []
backers_more d xs i h =
    let at : 0 + length (take i xs) ≡ i = omega (arith, length-take-le i xs (omega arith)) in
    ap (backers_from d 0) (take_more xs i None h)
    ∙ (backers_push d 0 (take i xs) (get_or xs i None) ∙ ap (λ m. backers_from d 0 (take i xs) ++ before (vote_for d m (get_or xs i None)) []) at)

-- a vote more in its record
pub listed_push : (vs : List Vote) (v : Vote) (w : Votes) → length vs < 16 → w ≡ listed vs → record { count = w.count + 1; list = set w.list w.count v } ≡ listed (vs ++ v ∷ [])
listed_push vs v w h e =
    let long = length-append vs (v ∷ []) in
    let size : length vs + 1 ≡ length (vs ++ v ∷ []) = omega arith in
    let left : 16 - length vs ≡ suc (16 - length (vs ++ v ∷ [])) = omega arith in
    let none : List Vote = replicate (16 - length (vs ++ v ∷ [])) no_vote in
    let same = ap (λ (x : Votes). set x.list x.count v) e in
    let open_up : replicate (16 - length vs) no_vote ≡ no_vote ∷ none = ap (λ n. replicate n no_vote) left in
    let count : w.count + 1 ≡ length (vs ++ v ∷ []) = ap (λ (x : Votes). x.count + 1) e ∙ size in
    let list : set w.list w.count v ≡ (vs ++ v ∷ []) ++ none =
    same ∙ (ap (λ l. set (vs ++ l) (length vs) v) open_up ∙ (set_at vs no_vote none v (length vs) refl ∙ sym (append_assoc vs (v ∷ []) none))) in
    λ i. record { count = count i; list = list i }

-- the same, by the clause on one vote more
pub listed_with : (vs : List Vote) (v : Vote) (w : Votes) → length vs < 16 → w ≡ listed vs → with_vote w v ≡ listed (vs ++ v ∷ [])
listed_with vs v w h e =
    let few : w.count < 16 = subst (λ n. n < 16) (sym (ap (λ (x : Votes). x.count) e)) h in
    cond-true (nat_lt w.count 16) _ w (lt-ltb w.count 16 few) ∙ listed_push vs v w h e

-- the signer's vote is for the digest, and joins; or it does not
module _ (d : DigestValue) (xs : List (Option Ballot)) (i : ℕ) (w : Votes) (lt : i < length xs) (few : i < 16)
    (is : w ≡ listed (backers_from d 0 (take i xs))) (short : length (backers_from d 0 (take i xs)) ≤ i) where
  pub one_joined : (v : Vote) (after : Votes) → vote_for d i (get_or xs i None) ≡ Some v → after ≡ with_vote w v
      → (after ≡ listed (backers_from d 0 (take (i + 1) xs))) × (length (backers_from d 0 (take (i + 1) xs)) ≤ i + 1)
  one_joined v after e was =
      let more = backers_more d xs i lt ∙ ap (λ o. backers_from d 0 (take i xs) ++ before o []) e in (
        was ∙ (listed_with (backers_from d 0 (take i xs)) v w (omega arith) is ∙ ap listed (sym more)),
        omega (arith, ap length more, length-append (backers_from d 0 (take i xs)) (v ∷ [])),
      )

  pub none_joined : vote_for d i (get_or xs i None) ≡ None → (w ≡ listed (backers_from d 0 (take (i + 1) xs))) × (length (backers_from d 0 (take (i + 1) xs)) ≤ i + 1)
  none_joined e =
      let more = backers_more d xs i lt ∙ (ap (λ o. backers_from d 0 (take i xs) ++ before o []) e ∙ append-nil (backers_from d 0 (take i xs))) in
      (is ∙ ap listed (sym more), omega (arith, ap length more))
