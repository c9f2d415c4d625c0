-- The check of a group: its steps, and what it shows.
use Rattle.std.proofs.Common.{◌≡◌, ℕ, zero, suc, ◌+◌, ◌-◌, ◌<◌, ◌≤◌, Bool, true, false, cond, ◌&&◌, eqb, ltb, leb, ◌⊎◌, List, [], ◌∷◌, length, get_or, take, drop, is_ok, Some, None, Ok, Err, Option, Result, sym, refl, ap, ◌∙◌, subst, inl, inr, arith, length-take, take_all}
use Rattle.std.specs.List.{AllByRecursion}
use Rattle.std.proofs.lemmas.Bool.{and_parts, and_from, leb-true, ltb-true, le-leb, lt-leb, lt-ltb, le-ltb, eq-eqb, ne_eqb, cases_lt, cases_eq, cond-true, cond-false}
use Rattle.std.proofs.lemmas.Bool.Decides.{nat_tests}
use Rattle.std.proofs.lemmas.List.{at_drop_more, at_drop_all}
use Rattle.wire.specs.declared.records.Statement.{Statement}
use Rattle.wire.specs.declared.kinds.Kind.TheVariants.{Commit}
use Rattle.wire.specs.declared.records.Sealed.{Sealed}
use Rattle.quorum.specs.Sets.{count, Ascends, signed_by}
use Rattle.group.specs.Group.{stands, grouped, quorum_held, surplus, list_fault, exactly, commits_fault, Stood, Fell, Whole, Groups, Proved, CommitsProve}
use Rattle.seal.specs.Records.{none, signer_of}
use Rattle.quorum.proofs.Counting.{signed_count}

module _ {X : Type 0} (names : X → ℕ) (allows : X → Bool) (n : ℕ) where
  pub group_none : (q i least : ℕ) (xs : List X) → q ≤ 0 → grouped names allows n q i least xs ≡ Ok i
  unfolding grouped
  group_none zero i least xs h = refl
  group_none (suc q) i least xs h = absurd (omega arith)

  past : (q i least : ℕ) → 0 < q → grouped names allows n q i least [] ≡ Err i
  unfolding grouped
  past zero i least h = absurd (omega arith)
  past (suc q) i least h = refl

  pub group_past : (q place least i : ℕ) (xs : List X) → 0 < q → length xs ≤ i → grouped names allows n q place least (drop i xs) ≡ Err place
  group_past q place least i xs h e = at_drop_all (grouped names allows n q place least) xs i e ∙ past q place least h

  next : (q i least : ℕ) (x : X) (xs : List X) → 0 < q → grouped names allows n q i least (x ∷ xs) ≡ cond (stands names allows n least x) (grouped names allows n (q - 1) (i + 1) (names x + 1) xs) (Err i)
  unfolding grouped
  next zero i least x xs h = absurd (omega arith)
  next (suc q) i least x xs h =
      let less : q ≡ suc q - 1 = omega arith in
      ap (λ m. cond (stands names allows n least x) (grouped names allows n m (i + 1) (names x + 1) xs) (Err i)) less

  pub group_at : (q place least i : ℕ) (xs : List X) (x : X) (s : ℕ) → 0 < q → i < length xs → x ≡ get_or xs i x → s ≡ names x
      → grouped names allows n q place least (drop i xs) ≡ cond (leb least s && (ltb s n && allows x)) (grouped names allows n (q - 1) (place + 1) (s + 1) (drop (i + 1) xs)) (Err place)
  group_at q place least i xs x s more h e es =
      at_drop_more (grouped names allows n q place least) xs i x h
      ∙ ap (λ y. grouped names allows n q place least (y ∷ drop (i + 1) xs)) (sym e)
      ∙ next q place least x (drop (i + 1) xs) more
      ∙ ap (λ t. cond (leb least t && (ltb t n && allows x)) (grouped names allows n (q - 1) (place + 1) (t + 1) (drop (i + 1) xs)) (Err place)) (sym es)

module _ {X : Type 0} (names : X → ℕ) (allows : X → Bool) (n : ℕ) where
  pub stood : (k place least : ℕ) (xs : List X) (p : ℕ) → grouped names allows n k place least xs ≡ Ok p → Stood names allows n k place least xs p
  unfolding grouped
  stood zero place least xs p e = let z : place ≡ p = cc in record { enough = omega arith; after = omega arith; ascends = tt; passes = tt }
  stood (suc k) place least [] p e = let z : ◌≡◌ {A = ℕ} 0 1 = cc in absurd (omega arith)
  stood (suc k) place least (x ∷ xs) p e = go (stands names allows n least x) refl e (stood k)
    where
      go : (b : Bool) → stands names allows n least x ≡ b → cond b (grouped names allows n k (place + 1) (names x + 1) xs) (Err place) ≡ Ok p
          → ((place least : ℕ) (xs : List X) (p : ℕ) → grouped names allows n k place least xs ≡ Ok p → Stood names allows n k place least xs p)
          → Stood names allows n (suc k) place least (x ∷ xs) p
      go true h f ih =
          let r = ih (place + 1) (names x + 1) xs p f in
          let a = and_parts (leb least (names x)) _ h in
          let b = and_parts (ltb (names x) n) (allows x) a.1 in
          record { enough = omega (arith, r.enough); after = omega (arith, r.after); ascends = (leb-true _ _ a.0, ltb-true _ _ b.0, r.ascends); passes = (b.1, r.passes) }
      go false h f ih = let z : ◌≡◌ {A = ℕ} 0 1 = cc in absurd (omega arith)

  step_on : (q i least : ℕ) (x : X) (xs : List X) → 0 < q → stands names allows n least x ≡ true → grouped names allows n q i least (x ∷ xs) ≡ grouped names allows n (q - 1) (i + 1) (names x + 1) xs
  step_on q i least x xs h e = next names allows n q i least x xs h ∙ cond-true (stands names allows n least x) _ _ e

  step_off : (q i least : ℕ) (x : X) (xs : List X) → 0 < q → stands names allows n least x ≡ false → grouped names allows n q i least (x ∷ xs) ≡ Err i
  step_off q i least x xs h e = next names allows n q i least x xs h ∙ cond-false (stands names allows n least x) _ _ e

  pub fell : (k place least : ℕ) (xs : List X) (fault : ℕ) → grouped names allows n k place least xs ≡ Err fault → Fell names allows n k place least xs fault
  unfolding grouped
  fell zero place least xs fault e = let z : ◌≡◌ {A = ℕ} 0 1 = cc in absurd (omega arith)
  fell (suc k) place least [] fault e =
      let z : place ≡ fault = cc in
      record {
        from = omega arith;
        short = omega arith;
        within = omega arith;
        before = group_none names allows n (fault - place) place least [] (omega arith) ∙ ap Ok z;
        here = past names allows n (fault - place + 1) place least (omega arith) ∙ ap Err z;
      }
  fell (suc k) place least (x ∷ xs) fault e = go (stands names allows n least x) refl e (fell k)
    where
      go : (b : Bool) → stands names allows n least x ≡ b → cond b (grouped names allows n k (place + 1) (names x + 1) xs) (Err place) ≡ Err fault
          → ((place least : ℕ) (xs : List X) (fault : ℕ) → grouped names allows n k place least xs ≡ Err fault → Fell names allows n k place least xs fault)
          → Fell names allows n (suc k) place least (x ∷ xs) fault
      go true h f ih =
          let r = ih (place + 1) (names x + 1) xs fault f in
          let less : fault - place - 1 ≡ fault - (place + 1) = omega arith in
          let same : fault - place + 1 - 1 ≡ fault - (place + 1) + 1 = omega (arith, r.from) in
          record {
            from = omega (arith, r.from);
            short = omega (arith, r.short);
            within = omega (arith, r.within);
            before = step_on (fault - place) place least x xs (omega (arith, r.from)) h ∙ ap (λ m. grouped names allows n m (place + 1) (names x + 1) xs) less ∙ r.before;
            here = step_on (fault - place + 1) place least x xs (omega arith) h ∙ ap (λ m. grouped names allows n m (place + 1) (names x + 1) xs) same ∙ r.here;
          }
      go false h f ih =
          let z : place ≡ fault = cc in
          record {
            from = omega arith;
            short = omega arith;
            within = omega arith;
            before = group_none names allows n (fault - place) place least (x ∷ xs) (omega arith) ∙ ap Ok z;
            here = step_off (fault - place + 1) place least x xs (omega arith) h ∙ ap Err z;
          }

  pub counted : (q place : ℕ) (xs : List X) (p : ℕ) → grouped names allows n q place 0 xs ≡ Ok p → q ≤ count (signed_by names (take q xs)) n
  counted q place xs p e =
      let s = stood q place 0 xs p e in
      omega (arith, s.enough, length-take q xs, signed_count names n 0 (take q xs) s.ascends)

module _ {X : Type 0} (names : X → ℕ) (allows : X → Bool) (n q : ℕ) (xs : List X) where
  pub whole : list_fault names allows n q xs ≡ None → Whole names allows n q xs
  whole e = go (grouped names allows n q 0 0 xs) refl e
    where
      go : (r : Result ℕ ℕ) → grouped names allows n q 0 0 xs ≡ r → surplus (length xs) r ≡ None → Whole names allows n q xs
      go (Err i) g f = let z : ◌≡◌ {A = ℕ} 0 1 = cc in absurd (omega arith)
      go (Ok p) g f = fits (cases_lt p (length xs))
        where
          fits : (p < length xs) ⊎ (length xs ≤ p) → Whole names allows n q xs
          fits (inl h) =
              let s : Some p ≡ None = sym (cond-true (ltb p (length xs)) (Some p) None (lt-ltb p (length xs) h)) ∙ f in
              let z : ◌≡◌ {A = ℕ} 0 1 = cc in
              absurd (omega arith)
          fits (inr h) =
              let s = stood names allows n q 0 0 xs p g in
              let all : take q xs ≡ xs = take_all q xs (omega (arith, s.after)) in
              record {
                long = omega (arith, s.after, s.enough);
                ascends = subst (Ascends names n 0) all s.ascends;
                counted = subst (λ ys. q ≤ count (signed_by names ys) n) all (counted names allows n q 0 xs p g);
                passes = subst (AllByRecursion (λ x. allows x ≡ true)) all s.passes;
              }

  pub index : (i : ℕ) → list_fault names allows n q xs ≡ Some i → (i ≤ q) × (i ≤ length xs)
  index i e = go (grouped names allows n q 0 0 xs) refl e
    where
      go : (r : Result ℕ ℕ) → grouped names allows n q 0 0 xs ≡ r → surplus (length xs) r ≡ Some i → (i ≤ q) × (i ≤ length xs)
      go (Err j) g f =
          let same : j ≡ i = cc in
          let r = fell names allows n q 0 0 xs j g in
          (omega (arith, r.short), omega (arith, r.within))
      go (Ok p) g f =
          let s = stood names allows n q 0 0 xs p g in
          fits (cases_lt p (length xs)) s.after
        where
          fits : (p < length xs) ⊎ (length xs ≤ p) → p ≡ 0 + q → (i ≤ q) × (i ≤ length xs)
          fits (inl h) after =
              let s : Some p ≡ Some i = sym (cond-true (ltb p (length xs)) (Some p) None (lt-ltb p (length xs) h)) ∙ f in
              let same : p ≡ i = cc in
              (omega arith, omega arith)
          fits (inr h) after =
              let s : None ≡ Some i = sym (cond-false (ltb p (length xs)) (Some p) None (le-ltb p (length xs) h)) ∙ f in
              let z : ◌≡◌ {A = ℕ} 0 1 = cc in
              absurd (omega arith)

leb_step : (a b : ℕ) → leb (suc a) (suc b) ≡ leb a b
leb_step a b = grind (arith, nat_tests)

-- of ascending signers the length alone decides
module _ {X : Type 0} (names : X → ℕ) (n : ℕ) where
  rises : (k place least : ℕ) (xs : List X) → Ascends names n least xs → is_ok (grouped names (λ _. true) n k place least xs) ≡ leb k (length xs)
  unfolding grouped
  rises zero place least xs a = sym (le-leb 0 (length xs) (omega arith))
  rises (suc k) place least [] a = sym (lt-leb (suc k) 0 (omega arith))
  rises (suc k) place least (x ∷ xs) a =
      let h : stands names (λ _. true) n least x ≡ true = and_from (leb least (names x)) _ (le-leb least (names x) a.0) (and_from (ltb (names x) n) true (lt-ltb (names x) n a.1) refl) in
      ap is_ok (cond-true (stands names (λ _. true) n least x) (grouped names (λ _. true) n k (place + 1) (names x + 1) xs) (Err place) h)
      ∙ rises k (place + 1) (names x + 1) xs a.2
      ∙ sym (leb_step k (length xs))

pub groups : {X : Type 0} (names : X → ℕ) (allows : X → Bool) → Groups names allows
groups names allows =
    record {
      stood = λ n. stood names allows n;
      fell = λ n. fell names allows n;
      counted = λ n. counted names allows n;
      whole = λ n. whole names allows n;
      index = λ n. index names allows n;
      ascending = λ n q. rises names n q 0 0;
    }

pub commits_prove : CommitsProve
commits_prove accepts n q number rs e = go (cases_eq (get_or rs 0 none).statement.epoch 0)
  where
    go : ((get_or rs 0 none).statement.epoch ≡ 0) ⊎ ((get_or rs 0 none).statement.epoch ≡ 0 → ⊥) → Proved accepts n q number rs
    go (inl h) =
        let st = (get_or rs 0 none).statement in
        let rule = exactly accepts Commit st.epoch number st.digest in
        let s : ◌≡◌ {A = Option ℕ} (Some 0) None = sym (cond-true (eqb st.epoch 0) (Some 0) (list_fault signer_of rule n q rs) (eq-eqb st.epoch 0 h)) ∙ e in
        let z : ◌≡◌ {A = ℕ} 0 1 = cc in
        absurd (omega arith)
    go (inr h) =
        let st = (get_or rs 0 none).statement in
        let rule = exactly accepts Commit st.epoch number st.digest in
        let f : list_fault signer_of rule n q rs ≡ None = sym (cond-false (eqb st.epoch 0) (Some 0) (list_fault signer_of rule n q rs) (ne_eqb st.epoch 0 h)) ∙ e in
        record { epoch = st.epoch; digest = st.digest; begun = omega arith; commits = whole signer_of rule n q rs f }

pub commits_none : (accepts : Statement → ℕ → Bool) (n q number : ℕ) (rs : List Sealed) → length rs ≡ 0 → Some 0 ≡ commits_fault accepts n q number rs
commits_none accepts n q number [] h = refl
commits_none accepts n q number (r ∷ rs) h = absurd (omega arith)

-- a list that holds a quorum has so many different signers
pub held_counted : {X : Type 0} (names : X → ℕ) (n q : ℕ) (xs : List X) → quorum_held names n q xs ≡ true → q ≤ count (signed_by names (take q xs)) n
held_counted {X} names n q xs h = go (grouped names (λ _. true) n q 0 0 xs) refl h
  where
    go : (r : Result ℕ ℕ) → grouped names (λ _. true) n q 0 0 xs ≡ r → is_ok r ≡ true → q ≤ count (signed_by names (take q xs)) n
    go (Ok p) e _ = counted names (λ _. true) n q 0 xs p e
    go (Err i) e b = absurd (let z : ◌≡◌ {A = ℕ} 0 1 = cc in omega arith)
