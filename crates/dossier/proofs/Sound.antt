-- An accepted dossier is sound.
use Rattle.std.proofs.Common.{◌≡◌, ℕ, zero, suc, ◌+◌, ◌-◌, ◌%◌, ◌<◌, ◌≤◌, Bool, true, false, cond, ◌&&◌, eqb, ltb, leb, ◌⊎◌, List, [], ◌∷◌, length, get_or, take, drop, Some, None, Ok, Err, fold, Option, Result, sym, refl, ap, ◌∙◌, subst, inl, inr, arith, MatchResult}
use Rattle.std.proofs.lemmas.Bool.{and_parts, and_from, eqb-true, ne_eqb, ltb-true, leb-true, le-leb, lt-ltb, cases_lt, cases_Bool, cond_both, cond-true, cond-false}
use Rattle.std.proofs.lemmas.List.{get_or_past, length-take-le}
use Rattle.std.proofs.ByRecursion.{All-get_or, All-from_get_or, All-take, All-drop, All-weaker, all-has, all_has_itself}
use Rattle.std.specs.List.{ContainsAt as Has, AllByRecursion}
use Rattle.wire.specs.declared.records.DigestValue.{DigestValue}
use Rattle.wire.specs.declared.records.Statement.{Statement}
use Rattle.wire.specs.declared.records.Sealed.{Sealed}
use Rattle.wire.specs.Values.{value_of, same_digest}
use Rattle.seal.specs.Records.{none, signer_of}
use Rattle.seal.proofs.Sameness.{same_digest_is}
use Rattle.quorum.specs.Sets.{Backed}
use Rattle.quorum.proofs.Counting.{quorum_at}
use Rattle.group.specs.Group.{grouped, exactly, Stood, Whole}
use Rattle.group.proofs.Groups as groups
use Rattle.dossier.specs.declared.parts.Terms.{Terms}
use Rattle.dossier.specs.declared.parts.Claim.{Claim}
use Rattle.dossier.specs.declared.parts.Opened.{Opened}
use Rattle.dossier.specs.Walk.{no_claim, asked, held_fits, larger, largest, mark_at, stable_fits, walked, reach, top, chosen, checkpoint_group}
use Rattle.dossier.specs.Laws.{prepare_by, checkpoint_by, stable_by, held_by, highest_of, digest_of, Genuine, Holds, Said, Sound, SealsHold, AllAccepted, DossierSound, Admitted}
use Rattle.dossier.proofs.Passage.{ok_is, went, Parts, parts}
use Rattle.dossier.proofs.Shown.{some_is, exact_is, held_below, Covered, covers, group_covers, Answered, settled, Claimed, Row, Counted, counted, row_at}
use Rattle.dossier.proofs.Within.{walked_within}
use Rattle.wire.specs.declared.kinds.Kind.TheVariants.{Prepare, Checkpoint, Stable, Held}
use Rattle.wire.specs.Kinds.{same_kind}
use Rattle.wire.proofs.KindBytes.{same_kind_is}
use Rattle.wire.specs.declared.kinds.Kind.{Kind}

stable_is : (accepts : Statement → ℕ → Bool) (terms : Terms) (r : Sealed) → stable_fits accepts terms r ≡ true → (r.statement ≡ stable_by (signer_of r) terms.epoch r.statement.number) × (accepts r.statement r.seal ≡ true)
stable_is accepts terms r h =
    let st = r.statement in
    let h₀ = and_parts (same_kind st.kind Stable) _ h in
    let h₁ = and_parts (eqb st.epoch terms.epoch) _ h₀.1 in
    let h₂ = and_parts (eqb (st.number % 16) 0) _ h₁.1 in
    let h₃ = and_parts (leb st.number 1000000000000) _ h₂.1 in
    let h₄ = and_parts (eqb st.held 0) _ h₃.1 in
    let h₅ = and_parts (same_digest st.digest (value_of 0)) _ h₄.1 in
    ((λ i. record { kind = same_kind_is st.kind Stable h₀.0 i; signer = st.signer; epoch = eqb-true _ _ h₁.0 i; number = st.number; held = eqb-true _ _ h₄.0 i; digest = same_digest_is _ _ h₅.0 i }), h₅.1)

held_is : (epoch s signer : ℕ) (st : Statement) → held_fits epoch s signer st ≡ true → st ≡ held_by signer epoch s st.held st.digest
held_is epoch s signer st h =
    let h₀ = and_parts (same_kind st.kind Held) _ h in
    let h₁ = and_parts (eqb st.signer signer) _ h₀.1 in
    let h₂ = and_parts (eqb st.epoch epoch) _ h₁.1 in
    let h₃ = and_parts (eqb st.number s) _ h₂.1 in
    λ i. record { kind = same_kind_is st.kind Held h₀.0 i; signer = eqb-true _ _ h₁.0 i; epoch = eqb-true _ _ h₂.0 i; number = eqb-true _ _ h₃.0 i; held = st.held; digest = st.digest }

-- the base is a multiple of 16
larger_aligned : (b : ℕ) (ts : List Sealed) → b % 16 ≡ 0 → AllByRecursion (λ t. t.statement.number % 16 ≡ 0) ts → fold larger b ts % 16 ≡ 0
larger_aligned b [] h a = h
larger_aligned b (t ∷ ts) h a = larger_aligned (larger b t) ts (higher (cases_lt b t.statement.number)) a.1
  where
    higher : (b < t.statement.number) ⊎ (t.statement.number ≤ b) → larger b t % 16 ≡ 0
    higher (inl k) = let same : larger b t ≡ t.statement.number = omega arith in ap (λ m. m % 16) same ∙ a.0
    higher (inr k) = let same : larger b t ≡ b = omega arith in ap (λ m. m % 16) same ∙ h

stable_aligned : (accepts : Statement → ℕ → Bool) (terms : Terms) (r : Sealed) → stable_fits accepts terms r ≡ true → r.statement.number % 16 ≡ 0
stable_aligned accepts terms r h =
    let st = r.statement in
    let h₀ = and_parts (same_kind st.kind Stable) _ h in
    let h₁ = and_parts (eqb st.epoch terms.epoch) _ h₀.1 in
    eqb-true _ _ (and_parts (eqb (st.number % 16) 0) _ h₁.1).0

module _ (accepts : Statement → ℕ → Bool) (terms : Terms) (rs : List Sealed) where
  -- the checkpoints of an accepted dossier
  marks_stood : (o : Opened) (w : Parts accepts terms rs o) → 0 < o.base → grouped signer_of (exactly accepts Checkpoint 0 o.base o.mark) terms.threshold.n terms.threshold.q terms.threshold.q 0 (drop terms.threshold.q rs) ≡ Ok w.start
  marks_stood o w h = go (went (eqb o.base 0) _ _ _ w.marked)
    where
      go : ((eqb o.base 0 ≡ true) × (◌≡◌ {A = Result ℕ ℕ} (Ok terms.threshold.q) (Ok w.start)))
          ⊎ ((eqb o.base 0 ≡ false) × (grouped signer_of (exactly accepts Checkpoint 0 o.base (mark_at rs o.base terms.threshold.q)) terms.threshold.n terms.threshold.q terms.threshold.q 0 (drop terms.threshold.q rs) ≡ Ok w.start))
          → grouped signer_of (exactly accepts Checkpoint 0 o.base o.mark) terms.threshold.n terms.threshold.q terms.threshold.q 0 (drop terms.threshold.q rs) ≡ Ok w.start
      go (inl k) = absurd (omega (arith, eqb-true o.base 0 k.0))
      go (inr k) = subst (λ (m : DigestValue). grouped signer_of (exactly accepts Checkpoint 0 o.base m) terms.threshold.n terms.threshold.q terms.threshold.q 0 (drop terms.threshold.q rs) ≡ Ok w.start) (sym w.mark_is) k.1

  marks_cover : (o : Opened) (w : Parts accepts terms rs o) → Covered accepts terms rs terms.threshold.q w.start
  marks_cover o w = go (went (eqb o.base 0) _ _ _ w.marked)
    where
      go : ((eqb o.base 0 ≡ true) × (◌≡◌ {A = Result ℕ ℕ} (Ok terms.threshold.q) (Ok w.start)))
          ⊎ ((eqb o.base 0 ≡ false) × (grouped signer_of (exactly accepts Checkpoint 0 o.base (mark_at rs o.base terms.threshold.q)) terms.threshold.n terms.threshold.q terms.threshold.q 0 (drop terms.threshold.q rs) ≡ Ok w.start))
          → Covered accepts terms rs terms.threshold.q w.start
      go (inl h) = λ i l u k. let z = ok_is terms.threshold.q w.start h.1 in absurd (omega arith)
      go (inr h) =
          let mark = mark_at rs o.base terms.threshold.q in
          group_covers accepts terms rs (exactly accepts Checkpoint 0 o.base mark) terms.threshold.q terms.threshold.q w.start (λ r k. (exact_is accepts Checkpoint 0 o.base mark r k).1) (groups.stood signer_of (exactly accepts Checkpoint 0 o.base mark) terms.threshold.n terms.threshold.q terms.threshold.q 0 (drop terms.threshold.q rs) w.start h.1)

  pub accepted_at : (o : Opened) → Parts accepts terms rs o → (i : ℕ) → i < length rs → accepts (get_or rs i none).statement (get_or rs i none).seal ≡ true
  accepted_at o w i h =
      let a = group_covers accepts terms rs (stable_fits accepts terms) terms.threshold.q 0 terms.threshold.q (λ r k. (stable_is accepts terms r k).1) w.stables in
      let b = marks_cover o w in
      let c = (counted accepts terms rs (take terms.threshold.q rs) 32 (o.base + 1) w.start [] _ w.counted).covered in
      covers accepts terms rs 0 terms.threshold.q w.end a (covers accepts terms rs terms.threshold.q w.start w.end b c) i (omega arith) (omega (arith, w.whole)) h

  -- the whole group of them
  marks_whole : (o : Opened) (w : Parts accepts terms rs o) → 0 < o.base → Whole signer_of (exactly accepts Checkpoint 0 o.base o.mark) terms.threshold.n terms.threshold.q (checkpoint_group terms.threshold.q rs o)
  marks_whole o w h =
      let e = marks_stood o w h in
      let st = groups.stood signer_of (exactly accepts Checkpoint 0 o.base o.mark) terms.threshold.n terms.threshold.q terms.threshold.q 0 (drop terms.threshold.q rs) w.start e in
      let there : take terms.threshold.q (drop terms.threshold.q rs) ≡ checkpoint_group terms.threshold.q rs o = sym (cond-false (eqb o.base 0) [] (take terms.threshold.q (drop terms.threshold.q rs)) (ne_eqb o.base 0 (λ z. omega arith))) in
      subst (Whole signer_of (exactly accepts Checkpoint 0 o.base o.mark) terms.threshold.n terms.threshold.q) there (record {
        long = length-take-le terms.threshold.q (drop terms.threshold.q rs) st.enough;
        ascends = st.ascends;
        counted = groups.counted signer_of (exactly accepts Checkpoint 0 o.base o.mark) terms.threshold.n terms.threshold.q terms.threshold.q (drop terms.threshold.q rs) w.start e;
        passes = st.passes;
      })

pub all_accepted : AllAccepted
all_accepted accepts terms rs o e =
    All-from_get_or (Genuine accepts) rs none (accepted_at accepts terms rs o (parts accepts terms rs o e))

-- the reach of claims
reach_keeps : (i last : ℕ) (cs : List Claim) → last ≤ i → last ≤ reach i last cs
reach_keeps i last [] h = omega arith
reach_keeps i last (c ∷ cs) h =
    let l : ℕ = cond (ltb 0 c.epoch) (i + 1) last in
    let a : (last ≤ l) × (l ≤ i + 1) = cond_both {A = ℕ} (ltb 0 c.epoch) (i + 1) last (λ z. (last ≤ z) × (z ≤ i + 1)) (λ _. (omega arith, omega arith)) (λ _. (omega arith, omega arith)) in
    omega (arith, a.0, reach_keeps (i + 1) l cs a.1)

reach_within : (i last : ℕ) (cs : List Claim) → last ≤ i → reach i last cs ≤ i + length cs
reach_within i last [] h = omega arith
reach_within i last (c ∷ cs) h =
    let l : ℕ = cond (ltb 0 c.epoch) (i + 1) last in
    let a : l ≤ i + 1 = cond_both {A = ℕ} (ltb 0 c.epoch) (i + 1) last (λ z. z ≤ i + 1) (λ _. omega arith) (λ _. omega arith) in
    omega (arith, reach_within (i + 1) l cs a)

reach_covers : (i last : ℕ) (cs : List Claim) (j : ℕ) → last ≤ i → j < length cs → 1 ≤ (get_or cs j no_claim).epoch → i + j + 1 ≤ reach i last cs
reach_covers i last [] j h l e = absurd (omega arith)
reach_covers i last (c ∷ cs) zero h l e =
    let z : cond (ltb 0 c.epoch) (i + 1) last ≡ i + 1 = cond-true {A = ℕ} (ltb 0 c.epoch) (i + 1) last (lt-ltb 0 c.epoch (omega arith)) in
    omega (arith, reach_keeps (i + 1) (cond (ltb 0 c.epoch) (i + 1) last) cs (omega (arith, z)), z)
reach_covers i last (c ∷ cs) (suc j) h l e =
    let a : cond (ltb 0 c.epoch) (i + 1) last ≤ i + 1 = cond_both {A = ℕ} (ltb 0 c.epoch) (i + 1) last (λ z. z ≤ i + 1) (λ _. omega arith) (λ _. omega arith) in
    omega (arith, reach_covers (i + 1) (cond (ltb 0 c.epoch) (i + 1) last) cs j a (omega arith) e)

-- the reach is a claim, or none was found
reach_claimed : (i last : ℕ) (cs : List Claim) → (reach i last cs ≡ last) ⊎ ((i < reach i last cs) × (1 ≤ (get_or cs (reach i last cs - i - 1) no_claim).epoch))
reach_claimed i last [] = inl refl
reach_claimed i last (c ∷ cs) = go (cases_Bool (ltb 0 c.epoch)) (reach_claimed (i + 1) (cond (ltb 0 c.epoch) (i + 1) last) cs)
  where
    go : (ltb 0 c.epoch ≡ true) ⊎ (ltb 0 c.epoch ≡ false)
        → (reach (i + 1) (cond (ltb 0 c.epoch) (i + 1) last) cs ≡ cond (ltb 0 c.epoch) (i + 1) last)
        ⊎ ((i + 1 < reach (i + 1) (cond (ltb 0 c.epoch) (i + 1) last) cs) × (1 ≤ (get_or cs (reach (i + 1) (cond (ltb 0 c.epoch) (i + 1) last) cs - (i + 1) - 1) no_claim).epoch))
        → (reach i last (c ∷ cs) ≡ last) ⊎ ((i < reach i last (c ∷ cs)) × (1 ≤ (get_or (c ∷ cs) (reach i last (c ∷ cs) - i - 1) no_claim).epoch))
    go (inl t) (inl e) =
        let here : reach i last (c ∷ cs) ≡ i + 1 = e ∙ cond-true {A = ℕ} (ltb 0 c.epoch) (i + 1) last t in
        let zeroth : 0 ≡ reach i last (c ∷ cs) - i - 1 = omega (arith, here) in
        inr (omega (arith, here), subst (λ k. 1 ≤ (get_or (c ∷ cs) k no_claim).epoch) zeroth (ltb-true 0 c.epoch t))
    go (inr t) (inl e) = inl (e ∙ cond-false {A = ℕ} (ltb 0 c.epoch) (i + 1) last t)
    go t (inr h) =
        let next : suc (reach (i + 1) (cond (ltb 0 c.epoch) (i + 1) last) cs - (i + 1) - 1) ≡ reach i last (c ∷ cs) - i - 1 = omega (arith, h.0) in
        inr (omega (arith, h.0), subst (λ k. 1 ≤ (get_or (c ∷ cs) k no_claim).epoch) next h.1)

-- no stable number passes the largest
larger_keeps : (b : ℕ) (ts : List Sealed) → b ≤ fold larger b ts
larger_keeps b [] = omega arith
larger_keeps b (t ∷ ts) = omega (arith, larger_keeps (larger b t) ts)

larger_covers : (b : ℕ) (ts : List Sealed) → AllByRecursion (λ t. t.statement.number ≤ fold larger b ts) ts
larger_covers b [] = tt
larger_covers b (t ∷ ts) = (omega (arith, larger_keeps (larger b t) ts), larger_covers (larger b t) ts)

all_both : {X : Type 0} (P Q : X → Type 0) (xs : List X) → AllByRecursion P xs → AllByRecursion Q xs → AllByRecursion (λ x. P x × Q x) xs
all_both P Q [] a b = tt
all_both P Q (x ∷ xs) a b = ((a.0, b.0), all_both P Q xs a.1 b.1)

module _ (accepts : Statement → ℕ → Bool) (terms : Terms) (honest : ℕ → Bool) (Issued : Statement → Type 0) (rs : List Sealed) (o : Opened) where
  abbrev Fair : Sealed → Type 0
  Fair r = Genuine accepts r → honest (signer_of r) ≡ true → Issued r.statement

  abbrev C : ℕ → Claim
  C s = get_or o.claims (s - o.base - 1) no_claim

  -- a group of which each honest signer issued its record
  issued_group : (kind : Kind) (e s : ℕ) (d : DigestValue) (p p' : ℕ) → AllByRecursion Fair rs → Stood signer_of (exactly accepts kind e s d) terms.threshold.n terms.threshold.q p 0 (drop p rs) p'
      → Backed terms.threshold.n terms.threshold.q honest (λ i. Issued (record { kind = kind; signer = i; epoch = e; number = s; held = 0; digest = d }))
  issued_group kind e s d p p' fair st =
      let ps : List Sealed = take terms.threshold.q (drop p rs) in
      let both = all_both _ _ ps st.passes (All-take Fair terms.threshold.q (drop p rs) (All-drop Fair p rs fair)) in
      quorum_at signer_of terms.threshold.n terms.threshold.q (λ i. honest i ≡ true → Issued (record { kind = kind; signer = i; epoch = e; number = s; held = 0; digest = d })) ps st.ascends (All-weaker _ _ (λ r f. one r f.0 f.1) ps both) (omega (arith, length-take-le terms.threshold.q (drop p rs) st.enough))
    where
      one : (r : Sealed) → exactly accepts kind e s d r ≡ true → Fair r → honest (signer_of r) ≡ true → Issued (record { kind = kind; signer = signer_of r; epoch = e; number = s; held = 0; digest = d })
      one r k f hon = let x = exact_is accepts kind e s d r k in subst Issued x.0 (f x.1 hon)

  module _ (fair : AllByRecursion Fair rs) (w : Parts accepts terms rs o) (k : Counted accepts terms rs (take terms.threshold.q rs) 32 (o.base + 1) w.start [] (record { value = o.claims; next = w.end })) where
    long : length o.claims ≡ 32
    long = ap length k.is ∙ k.size

    row : Row accepts terms rs (take terms.threshold.q rs) (o.base + 1) o.claims
    row = subst (Row accepts terms rs (take terms.threshold.q rs) (o.base + 1)) (sym k.is) k.row

    claim_at : (j : ℕ) → j < 32 → Claimed accepts terms rs (take terms.threshold.q rs) (o.base + 1 + j) (get_or o.claims j no_claim)
    claim_at j h = row_at accepts terms rs (take terms.threshold.q rs) (o.base + 1) o.claims j row (omega (arith, long))

    claim_of : (s : ℕ) → o.base < s → s ≤ o.base + 32 → Claimed accepts terms rs (take terms.threshold.q rs) s (C s)
    claim_of s l u =
        let z : o.base + 1 + (s - o.base - 1) ≡ s = omega arith in
        subst (λ t. Claimed accepts terms rs (take terms.threshold.q rs) t (C s)) z (claim_at (s - o.base - 1) (omega arith))

    -- past 32 numbers there is no claim
    past : (j : ℕ) → 32 ≤ j → get_or o.claims j no_claim ≡ no_claim
    past j h = get_or_past o.claims j no_claim (omega (arith, long))

    near : (j : ℕ) → 1 ≤ (get_or o.claims j no_claim).epoch → j < 32
    near j h = go (cases_lt j 32)
      where
        go : (j < 32) ⊎ (32 ≤ j) → j < 32
        go (inl a) = a
        go (inr a) = let z = ap (λ (c : Claim). c.epoch) (past j a) in absurd (omega (arith, z))

    below : 1 ≤ terms.epoch → (s : ℕ) → highest_of o s < terms.epoch
    below h s = go (cases_lt (s - o.base - 1) 32)
      where
        go : (s - o.base - 1 < 32) ⊎ (32 ≤ s - o.base - 1) → highest_of o s < terms.epoch
        go (inl a) = (claim_at (s - o.base - 1) a).below h
        go (inr a) = let z = ap (λ (c : Claim). c.epoch) (past (s - o.base - 1) a) in omega (arith, z)

    empty : (s : ℕ) → o.base < s → highest_of o s ≡ 0 → digest_of o s ≡ value_of 0
    empty s l h = go (cases_lt (s - o.base - 1) 32)
      where
        go : (s - o.base - 1 < 32) ⊎ (32 ≤ s - o.base - 1) → digest_of o s ≡ value_of 0
        go (inl a) = (claim_at (s - o.base - 1) a).empty h
        go (inr a) = ap (λ (c : Claim). c.digest) (past (s - o.base - 1) a)

    claimed_low : (s : ℕ) → o.base < s → 1 ≤ highest_of o s → s ≤ top o
    claimed_low s l h =
        let a = near (s - o.base - 1) h in
        omega (arith, reach_covers 0 0 o.claims (s - o.base - 1) (omega arith) (omega (arith, long)) h)

    top_is : (top o ≡ o.base) ⊎ ((o.base < top o) × (1 ≤ highest_of o (top o)))
    top_is = go (reach_claimed 0 0 o.claims)
      where
        go : (reach 0 0 o.claims ≡ 0) ⊎ ((0 < reach 0 0 o.claims) × (1 ≤ (get_or o.claims (reach 0 0 o.claims - 0 - 1) no_claim).epoch)) → (top o ≡ o.base) ⊎ ((o.base < top o) × (1 ≤ highest_of o (top o)))
        go (inl e) = inl (omega (arith, e))
        go (inr h) =
            let there : reach 0 0 o.claims - 0 - 1 ≡ top o - o.base - 1 = omega arith in
            inr (omega (arith, h.0), subst (λ j. 1 ≤ (get_or o.claims j no_claim).epoch) there h.1)

    all_chosen : (s : ℕ) → o.base < s → s ≤ top o → chosen o s ≡ Some (digest_of o s)
    all_chosen s l u =
        cond-true (ltb o.base s && leb s (top o)) _ _ (and_from (ltb o.base s) (leb s (top o)) (lt-ltb _ _ l) (le-leb _ _ u))

    only : (s : ℕ) (d : DigestValue) → chosen o s ≡ Some d → (o.base < s) × (s ≤ top o) × (d ≡ digest_of o s)
    only s d e = go (went (ltb o.base s && leb s (top o)) _ _ _ e)
      where
        go : (((ltb o.base s && leb s (top o)) ≡ true) × (◌≡◌ {A = Option DigestValue} (Some (digest_of o s)) (Some d))) ⊎ (((ltb o.base s && leb s (top o)) ≡ false) × (◌≡◌ {A = Option DigestValue} None (Some d))) → (o.base < s) × (s ≤ top o) × (d ≡ digest_of o s)
        go (inr h) = absurd cc
        go (inl h) =
            let a = and_parts (ltb o.base s) (leb s (top o)) h.0 in
            (ltb-true _ _ a.0, leb-true _ _ a.1, sym (some_is (digest_of o s) d h.1))

    backed : (s : ℕ) → o.base < s → 1 ≤ highest_of o s → Backed terms.threshold.n terms.threshold.q honest (λ i. Issued (prepare_by i (highest_of o s) s (digest_of o s)))
    backed s l h =
        let a = near (s - o.base - 1) h in
        let c = (claim_of s l (omega arith)).backed h in
        issued_group Prepare (highest_of o s) s (digest_of o s) c.0 c.1 fair c.2

    marked : 0 < o.base → Backed terms.threshold.n terms.threshold.q honest (λ i. Issued (checkpoint_by i o.base o.mark))
    marked h =
        issued_group Checkpoint 0 o.base o.mark terms.threshold.q w.start fair (groups.stood signer_of (exactly accepts Checkpoint 0 o.base o.mark) terms.threshold.n terms.threshold.q terms.threshold.q 0 (drop terms.threshold.q rs) w.start (marks_stood accepts terms rs o w h))

    said : (t : Sealed) → Has (take terms.threshold.q rs) t → honest (signer_of t) ≡ true → Said Issued terms.epoch (signer_of t) o
    said t mem hon =
        let fits = all-has (λ r. stable_fits accepts terms r ≡ true) (take terms.threshold.q rs) t w.stables.passes mem in
        let f = all-has Fair (take terms.threshold.q rs) t (All-take Fair terms.threshold.q rs fair) mem in
        let x = stable_is accepts terms t fits in
        let low = all-has (λ r. r.statement.number ≤ largest (take terms.threshold.q rs)) (take terms.threshold.q rs) t (larger_covers 0 (take terms.threshold.q rs)) mem in
        let m_low : t.statement.number ≤ o.base = omega (arith, low, w.base_is) in
        record { m = t.statement.number; stable = subst Issued x.0 (f x.1 hon); low = m_low; held = λ s l u. held s l u m_low }
      where
        held : (s : ℕ) → o.base < s → s ≤ t.statement.number + 32 → t.statement.number ≤ o.base → Holds Issued terms.epoch (signer_of t) s o
        held s l u low =
            let c = claim_of s l (omega arith) in
            let yes_asked : asked s t ≡ true = le-leb (s - 32) t.statement.number (omega arith) in
            let a = all-has (Answered accepts terms rs s (settled (C s))) (take terms.threshold.q rs) t c.each mem yes_asked in
            let r : Sealed = get_or rs a.0 none in
            let is = held_is terms.epoch s (signer_of t) r.statement a.2 in
            let own : honest (signer_of r) ≡ true = ap (λ (z : Statement). honest z.signer) is ∙ hon in
            let f = All-get_or Fair rs a.0 none a.1 fair in
            record {
              e = r.statement.held;
              d = r.statement.digest;
              issued = subst Issued is (f (accepted_at accepts terms rs o w a.0 a.1) own);
              below = held_below accepts terms rs s (signer_of t) r.statement a.2;
              no_higher = a.3.0;
              agrees = λ z. a.3.1 z refl;
            }

    sound : Sound terms honest Issued o
    sound = record {
      signers = quorum_at signer_of terms.threshold.n terms.threshold.q (λ i. honest i ≡ true → Said Issued terms.epoch i o) (take terms.threshold.q rs) w.stables.ascends (All-weaker _ _ said (take terms.threshold.q rs) (all_has_itself (take terms.threshold.q rs))) (omega (arith, length-take-le terms.threshold.q rs w.stables.enough));
      marked = marked;
      claim_below = below;
      claim_within = claimed_low;
      claim_backed = backed;
      top_claimed = top_is;
      top_near = omega (arith, reach_within 0 0 o.claims (omega arith), long);
      chosen_all = all_chosen;
      chosen_only = only;
      chosen_empty = empty;
    }

  -- the law for any predicate of what was issued
  pub sound_of : SealsHold accepts honest Issued rs → walked accepts terms rs ≡ Ok o → Sound terms honest Issued o
  sound_of fair e =
      let w = parts accepts terms rs o e in
      sound fair w (counted accepts terms rs (take terms.threshold.q rs) 32 (o.base + 1) w.start [] _ w.counted)

pub dossier_sound : DossierSound
dossier_sound accepts terms honest issued rs o fair e = sound_of accepts terms honest (λ st. issued st ≡ true) rs o fair e

module _ (accepts : Statement → ℕ → Bool) (terms : Terms) (rs : List Sealed) where
  -- what the walk's own contract promises
  pub admitted : (o : Opened) → walked accepts terms rs ≡ Ok o → Admitted accepts terms rs o
  admitted o e =
      let w = parts accepts terms rs o e in
      let even = larger_aligned 0 (take terms.threshold.q rs) refl (All-weaker _ _ (stable_aligned accepts terms) (take terms.threshold.q rs) w.stables.passes) in
      record {
        low = w.low;
        aligned = ap (λ m. m % 16) w.base_is ∙ even;
        marks = marks_whole accepts terms rs o w;
        accepted = all_accepted accepts terms rs o e;
        sound = λ honest issued fair. dossier_sound accepts terms honest issued rs o fair e;
      }

  pub judged : (r : Result Opened ℕ) → r ≡ walked accepts terms rs → MatchResult r (Admitted accepts terms rs) (λ i. i ≤ length rs)
  judged (Ok o) e = admitted o (sym e)
  judged (Err i) e = walked_within accepts terms rs i (sym e)
