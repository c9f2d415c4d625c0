-- What each part of a walk that came through shows, place by place.
use Rattle.std.proofs.Common.{◌≡◌, ℕ, zero, suc, ◌+◌, ◌-◌, ◌<◌, ◌≤◌, Bool, true, false, cond, not, ◌&&◌, ◌||◌, eqb, ltb, ◌⊎◌, List, [], ◌∷◌, ◌++◌, length, get_or, take, drop, Some, None, Ok, Option, Result, sym, refl, ap, ◌∙◌, subst, inl, inr, arith}
use Rattle.std.proofs.lemmas.Bool.{and_parts, eqb-true, eqb-false, ltb-true, ltb-false, cases_lt, cond_both, both_ways, cases_Bool, and_cases, or_parts, or_cases, eq-eqb, not-true}
use Rattle.std.proofs.lemmas.List.{get_or-take, get_or-drop, length-take-le, append_assoc, append-nil}
use Rattle.std.proofs.ByRecursion.{All-get_or}
use Rattle.std.specs.List.{AllByRecursion}
use Rattle.wire.specs.declared.records.DigestValue.{DigestValue}
use Rattle.wire.specs.declared.records.Statement.{Statement}
use Rattle.wire.specs.Values.{value_of, same_digest}
use Rattle.seal.proofs.Sameness.{same_digest_is}
use Rattle.wire.specs.declared.records.Sealed.{Sealed}
use Rattle.group.specs.Group.{grouped, exactly}
use Rattle.seal.specs.Records.{none, signer_of}
use Rattle.group.specs.Group.{Stood}
use Rattle.group.proofs.Groups.{stood}
use Rattle.dossier.specs.declared.parts.Terms.{Terms}
use Rattle.dossier.specs.declared.parts.Claim.{Claim}
use Rattle.dossier.specs.declared.tally.Tally.{Tally}
use Rattle.dossier.specs.declared.tally.Found.{Found}
use Rattle.dossier.specs.Walk.{onward, or_fault, no_claim, blank, asked, last_asked, tallied, held_fits, held_one, helds_from, helds, found, numbers}
use Rattle.dossier.proofs.Passage.{through, ok_is, went}
use Rattle.wire.specs.declared.kinds.Kind.TheVariants.{Prepare, Held}
use Rattle.wire.specs.Kinds.{same_kind}
use Rattle.wire.proofs.KindBytes.{same_kind_is}
use Rattle.wire.specs.declared.kinds.Kind.{Kind}

-- a held epoch and digest that a tally has taken in: no higher than its highest and, at that and without a clash, of its digest
abbrev pub Agrees : ℕ → DigestValue → Tally → Type 0
Agrees e d c = (e ≤ c.claim.epoch) × (e ≡ c.claim.epoch → c.clash ≡ false → d ≡ c.claim.digest)

tallied_new : (c : Tally) (st : Statement) → Agrees st.held st.digest (tallied c st)
tallied_new c st =
    cond_both {A = Tally} (ltb c.claim.epoch st.held) (record { claim = record { epoch = st.held; digest = st.digest }; clash = false }) _ (Agrees st.held st.digest)
    (λ h. (omega arith, λ _ _. refl))
    (λ h. cond_both {A = Tally} (eqb st.held c.claim.epoch && not (same_digest st.digest c.claim.digest)) (record { claim = c.claim; clash = true }) c (Agrees st.held st.digest)
    (λ _. (omega (arith, ltb-false _ _ h), λ _ k. absurd cc))
    (λ k. (omega (arith, ltb-false _ _ h), λ e _. same (same_digest st.digest c.claim.digest) refl (and_cases (eqb st.held c.claim.epoch) _ k) e)))
  where
    same : (b : Bool) → same_digest st.digest c.claim.digest ≡ b → (eqb st.held c.claim.epoch ≡ false) ⊎ (not b ≡ false) → st.held ≡ c.claim.epoch → st.digest ≡ c.claim.digest
    same b k (inl h) e = absurd (eqb-false _ _ h e)
    same true k (inr h) e = same_digest_is _ _ k
    same false k (inr h) e = absurd cc

tallied_old : (e : ℕ) (d : DigestValue) (c : Tally) (st : Statement) → Agrees e d c → Agrees e d (tallied c st)
tallied_old e d c st a =
    cond_both {A = Tally} (ltb c.claim.epoch st.held) (record { claim = record { epoch = st.held; digest = st.digest }; clash = false }) _ (Agrees e d)
    (λ h. (omega (arith, a.0, ltb-true _ _ h), λ k _. absurd (omega (arith, a.0, ltb-true _ _ h))))
    (λ _. cond_both {A = Tally} (eqb st.held c.claim.epoch && not (same_digest st.digest c.claim.digest)) (record { claim = c.claim; clash = true }) c (Agrees e d) (λ _. (a.0, λ _ k. absurd cc)) (λ _. a))

-- and no bound is passed that both keep
tallied_below : (m : ℕ) (c : Tally) (st : Statement) → c.claim.epoch < m → st.held < m → (tallied c st).claim.epoch < m
tallied_below m c st h k =
    cond_both {A = Tally} (ltb c.claim.epoch st.held) (record { claim = record { epoch = st.held; digest = st.digest }; clash = false }) _ (λ t. t.claim.epoch < m) (λ _. k)
    (λ _. cond_both {A = Tally} (eqb st.held c.claim.epoch && not (same_digest st.digest c.claim.digest)) (record { claim = c.claim; clash = true }) c (λ t. t.claim.epoch < m) (λ _. h) (λ _. h))

-- without an epoch there is no digest
tallied_empty : (c : Tally) (st : Statement) → (c.claim.epoch ≡ 0 → c.claim.digest ≡ value_of 0) → (tallied c st).claim.epoch ≡ 0 → (tallied c st).claim.digest ≡ value_of 0
tallied_empty c st a =
    cond_both {A = Tally} (ltb c.claim.epoch st.held) (record { claim = record { epoch = st.held; digest = st.digest }; clash = false }) _ (λ t. t.claim.epoch ≡ 0 → t.claim.digest ≡ value_of 0)
    (λ h e. absurd (omega (arith, ltb-true _ _ h)))
    (λ _. cond_both {A = Tally} (eqb st.held c.claim.epoch && not (same_digest st.digest c.claim.digest)) (record { claim = c.claim; clash = true }) c (λ t. t.claim.epoch ≡ 0 → t.claim.digest ≡ value_of 0) (λ _. a) (λ _. a))

pub some_is : {A : Type 0} (a b : A) → ◌≡◌ {A = Option A} (Some a) (Some b) → a ≡ b
some_is a b e = cc

pub record Passed {A B : Type 0} (x : Option A) (f : A → Result B ℕ) (b : B) : Type 0 where
  pub value : A
  pub first : x ≡ Some value
  pub second : f value ≡ Ok b

pub passed : {A B : Type 0} (x : Option A) (place : ℕ) (f : A → Result B ℕ) (b : B) → or_fault x place f ≡ Ok b → Passed x f b
passed (Some a) place f b e = record { value = a; first = refl; second = e }
passed None place f b e = absurd cc

-- a claim as the tally that it came of
abbrev pub settled : Claim → Tally
settled c = record { claim = c; clash = false }

-- a record that is exactly what was asked for, and that the checker accepts
pub exact_is : (accepts : Statement → ℕ → Bool) (kind : Kind) (e s : ℕ) (d : DigestValue) (r : Sealed) → exactly accepts kind e s d r ≡ true
    → (r.statement ≡ record { kind = kind; signer = r.statement.signer; epoch = e; number = s; held = 0; digest = d }) × (accepts r.statement r.seal ≡ true)
exact_is accepts kind e s d r h =
    let st = r.statement in
    let h₀ = and_parts (same_kind st.kind kind) _ h in
    let h₁ = and_parts (eqb st.epoch e) _ h₀.1 in
    let h₂ = and_parts (eqb st.number s) _ h₁.1 in
    let h₃ = and_parts (eqb st.held 0) _ h₂.1 in
    let h₄ = and_parts (same_digest st.digest d) _ h₃.1 in
    ((λ i. record { kind = same_kind_is st.kind kind h₀.0 i; signer = st.signer; epoch = eqb-true _ _ h₁.0 i; number = eqb-true _ _ h₂.0 i; held = eqb-true _ _ h₃.0 i; digest = same_digest_is _ _ h₄.0 i }), h₄.1)

module _ (accepts : Statement → ℕ → Bool) (terms : Terms) (rs : List Sealed) where
  -- the checker accepts the records from a place up to another
  abbrev pub Covered : ℕ → ℕ → Type 0
  Covered a b = (i : ℕ) → a ≤ i → i < b → i < length rs → accepts (get_or rs i none).statement (get_or rs i none).seal ≡ true

  pub covers : (a b c : ℕ) → Covered a b → Covered b c → Covered a c
  covers a b c f g i l u h = go (cases_lt i b)
    where
      go : (i < b) ⊎ (b ≤ i) → accepts (get_or rs i none).statement (get_or rs i none).seal ≡ true
      go (inl k) = f i l k h
      go (inr k) = g i k u h

  pub group_covers : (allows : Sealed → Bool) (k p p' : ℕ) → ((r : Sealed) → allows r ≡ true → accepts r.statement r.seal ≡ true) → Stood signer_of allows terms.threshold.n k p 0 (drop p rs) p' → Covered p p'
  group_covers allows k p p' tells w i l u h =
      let j : ℕ = i - p in
      let small : j < k = omega (arith, w.after) in
      let inside : j < length (take k (drop p rs)) = omega (arith, length-take-le k (drop p rs) w.enough) in
      let there : p + j ≡ i = omega arith in
      let same = get_or-take k (drop p rs) j none small ∙ get_or-drop p rs j none ∙ ap (λ z. get_or rs z none) there in
      subst (λ r. accepts r.statement r.seal ≡ true) same (tells _ (All-get_or (λ x. allows x ≡ true) (take k (drop p rs)) j none inside w.passes))

  -- a held statement that passed
  pub record One (s signer : ℕ) (is_last : Bool) (c c' : Tally) (place : ℕ) : Type 0 where
    pub inside : place < length rs
    pub fits : held_fits terms.epoch s signer (get_or rs place none).statement ≡ true
    pub calm : not (is_last && c'.clash) ≡ true
    pub ok : accepts (get_or rs place none).statement (get_or rs place none).seal ≡ true
    pub after : tallied c (get_or rs place none).statement ≡ c'

  pub one_passed : (s signer : ℕ) (is_last : Bool) (c c' : Tally) (place : ℕ) → held_one accepts terms rs s signer is_last c place ≡ Some c' → One s signer is_last c c' place
  one_passed s signer is_last c c' place e = go _ refl e
    where
      r : Sealed
      r = get_or rs place none

      go : (b : Bool)
          → (ltb place (length rs) && (held_fits terms.epoch s signer (get_or rs place none).statement && (not (is_last && (tallied c (get_or rs place none).statement).clash) && accepts (get_or rs place none).statement (get_or rs place none).seal))) ≡ b
          → cond b (Some (tallied c (get_or rs place none).statement)) None ≡ Some c' → One s signer is_last c c' place
      go true h k =
          let a = and_parts (ltb place (length rs)) _ h in
          let b = and_parts (held_fits terms.epoch s signer (get_or rs place none).statement) _ a.1 in
          let d = and_parts (not (is_last && (tallied c (get_or rs place none).statement).clash)) _ b.1 in
          let same = some_is (tallied c (get_or rs place none).statement) c' k in
          record { inside = ltb-true _ _ a.0; fits = b.0; calm = subst (λ (t : Tally). not (is_last && t.clash) ≡ true) same d.0; ok = d.1; after = same }
      go false h k = absurd cc

  -- who is asked has its held statement, which the tally has taken in
  abbrev pub Answered : ℕ → Tally → Sealed → Type 0
  Answered s tally t = asked s t ≡ true → (i : ℕ) × (i < length rs) × (held_fits terms.epoch s t.statement.signer (get_or rs i none).statement ≡ true) × Agrees (get_or rs i none).statement.held (get_or rs i none).statement.digest tally

  record Answers (s place : ℕ) (ts : List Sealed) (c : Tally) (g : Found Tally) : Type 0 where
    covered : Covered place g.next
    keeps : (e : ℕ) (d : DigestValue) → Agrees e d c → Agrees e d g.value
    empty : (c.claim.epoch ≡ 0 → c.claim.digest ≡ value_of 0) → g.value.claim.epoch ≡ 0 → g.value.claim.digest ≡ value_of 0
    below : c.claim.epoch < terms.epoch → g.value.claim.epoch < terms.epoch
    each : AllByRecursion (Answered s g.value) ts

  pub held_below : (s signer : ℕ) (st : Statement) → held_fits terms.epoch s signer st ≡ true → st.held < terms.epoch
  held_below s signer st h =
      let h₀ = and_parts (same_kind st.kind Held) _ h in
      let h₁ = and_parts (eqb st.signer signer) _ h₀.1 in
      let h₂ = and_parts (eqb st.epoch terms.epoch) _ h₁.1 in
      let h₃ = and_parts (eqb st.number s) _ h₂.1 in
      ltb-true _ _ (and_parts (ltb st.held terms.epoch) _ h₃.1).0

  answers : (s last j : ℕ) (c : Tally) (place : ℕ) (ts : List Sealed) (g : Found Tally) → helds_from accepts terms rs s last j c place ts ≡ Ok g → Answers s place ts c g
  answers s last j c place [] g e =
      subst (Answers s place [] c) (ok_is _ g e) (record { covered = λ i l u h. absurd (omega arith); keeps = λ e d a. a; empty = λ a. a; below = λ h. h; each = tt })
  answers s last j c place (t ∷ ts) g e = go (went (asked s t) _ _ _ e) (λ c place. answers s last (j + 1) c place ts g)
    where
      go : ((asked s t ≡ true) × (or_fault (held_one accepts terms rs s t.statement.signer (eqb j last) c place) place (λ c'. helds_from accepts terms rs s last (j + 1) c' (place + 1) ts) ≡ Ok g))
          ⊎ ((asked s t ≡ false) × (helds_from accepts terms rs s last (j + 1) c place ts ≡ Ok g))
          → ((c : Tally) (place : ℕ) → helds_from accepts terms rs s last (j + 1) c place ts ≡ Ok g → Answers s place ts c g)
          → Answers s place (t ∷ ts) c g
      go (inr h) ih =
          let w = ih c place h.1 in
          record { covered = w.covered; keeps = w.keeps; empty = w.empty; below = w.below; each = ((λ a. absurd (both_ways (asked s t) h.0 a)), w.each) }
      go (inl h) ih =
          let p = passed _ place _ g h.1 in
          let o = one_passed s t.statement.signer (eqb j last) c p.value place p.first in
          let w = ih p.value (place + 1) p.second in
          let st : Statement = (get_or rs place none).statement in
          let new = subst (Agrees st.held st.digest) o.after (tallied_new c st) in
          let same : (tallied c (get_or rs place none).statement).claim.epoch ≡ p.value.claim.epoch = ap (λ (x : Tally). x.claim.epoch) o.after in
          record {
            covered = covers place (place + 1) g.next (λ i l u h. subst (λ k. accepts (get_or rs k none).statement (get_or rs k none).seal ≡ true) (between i l u) o.ok) w.covered;
            keeps = λ e d a. w.keeps e d (subst (Agrees e d) o.after (tallied_old e d c st a));
            empty = λ a. w.empty (subst (λ (x : Tally). x.claim.epoch ≡ 0 → x.claim.digest ≡ value_of 0) o.after (tallied_empty c st a));
            below = λ k. w.below (omega (arith, same, tallied_below terms.epoch c (get_or rs place none).statement k (held_below s t.statement.signer (get_or rs place none).statement o.fits)));
            each = ((λ _. (place, o.inside, o.fits, w.keeps st.held st.digest new)), w.each);
          }
        where
          between : (i : ℕ) → place ≤ i → i < place + 1 → place ≡ i
          between i l u = omega arith

  -- what is left to ask
  abbrev some_asked : ℕ → List Sealed → Bool
  some_asked s [] = false
  some_asked s (t ∷ ts) = asked s t || some_asked s ts

  last_stays : (s j l : ℕ) (ts : List Sealed) → some_asked s ts ≡ false → last_asked s j l ts ≡ l
  last_stays s j l [] h = refl
  last_stays s j l (t ∷ ts) h =
      let a = or_parts (asked s t) (some_asked s ts) h in
      last_stays s (j + 1) (cond (asked s t) j l) ts a.1 ∙ ap (λ b. cond b j l) a.0

  still : (s last j : ℕ) (c : Tally) (place : ℕ) (ts : List Sealed) (g : Found Tally) → some_asked s ts ≡ false → helds_from accepts terms rs s last j c place ts ≡ Ok g → c ≡ g.value
  still s last j c place [] g h e = ap (λ (x : Found Tally). x.value) (ok_is (record { value = c; next = place }) g e)
  still s last j c place (t ∷ ts) g h e =
      let a = or_parts (asked s t) (some_asked s ts) h in
      go a.0 (went (asked s t) _ _ _ e) (still s last (j + 1) c place ts g a.1)
    where
      go : asked s t ≡ false
          → ((asked s t ≡ true) × (or_fault (held_one accepts terms rs s t.statement.signer (eqb j last) c place) place (λ c'. helds_from accepts terms rs s last (j + 1) c' (place + 1) ts) ≡ Ok g))
          ⊎ ((asked s t ≡ false) × (helds_from accepts terms rs s last (j + 1) c place ts ≡ Ok g))
          → (helds_from accepts terms rs s last (j + 1) c place ts ≡ Ok g → c ≡ g.value) → c ≡ g.value
      go a (inl k) ih = absurd (both_ways (asked s t) a k.0)
      go a (inr k) ih = ih k.1

  calm_of : (b x : Bool) → b ≡ true → not (b && x) ≡ true → x ≡ false
  calm_of true x e h = not-true x h
  calm_of false x e h = absurd cc

  -- nobody clashed at the highest
  calmed : (s j l : ℕ) (c : Tally) (place : ℕ) (ts : List Sealed) (g : Found Tally) → some_asked s ts ≡ true → helds_from accepts terms rs s (last_asked s j l ts) j c place ts ≡ Ok g → g.value.clash ≡ false
  calmed s j l c place [] g h e = absurd cc
  calmed s j l c place (t ∷ ts) g h e = go (went (asked s t) _ _ _ e) (cases_Bool (some_asked s ts)) (λ c place. calmed s (j + 1) (cond (asked s t) j l) c place ts g)
    where
      go : ((asked s t ≡ true) × (or_fault (held_one accepts terms rs s t.statement.signer (eqb j (last_asked s (j + 1) (cond (asked s t) j l) ts)) c place) place (λ c'. helds_from accepts terms rs s (last_asked s (j + 1) (cond (asked s t) j l) ts) (j + 1) c' (place + 1) ts) ≡ Ok g))
          ⊎ ((asked s t ≡ false) × (helds_from accepts terms rs s (last_asked s (j + 1) (cond (asked s t) j l) ts) (j + 1) c place ts ≡ Ok g))
          → (some_asked s ts ≡ true) ⊎ (some_asked s ts ≡ false)
          → ((c : Tally) (place : ℕ) → some_asked s ts ≡ true → helds_from accepts terms rs s (last_asked s (j + 1) (cond (asked s t) j l) ts) (j + 1) c place ts ≡ Ok g → g.value.clash ≡ false)
          → g.value.clash ≡ false
      go (inr k) m ih = rest (or_cases (asked s t) (some_asked s ts) h)
        where
          rest : (asked s t ≡ true) ⊎ (some_asked s ts ≡ true) → g.value.clash ≡ false
          rest (inl a) = absurd (both_ways (asked s t) k.0 a)
          rest (inr a) = ih c place a k.1
      go (inl k) (inl more) ih = let p = passed (held_one accepts terms rs s t.statement.signer (eqb j (last_asked s (j + 1) (cond (asked s t) j l) ts)) c place) place (λ c'. helds_from accepts terms rs s (last_asked s (j + 1) (cond (asked s t) j l) ts) (j + 1) c' (place + 1) ts) g k.1 in ih p.value (place + 1) more p.second
      go (inl k) (inr none_left) ih =
          let p = passed (held_one accepts terms rs s t.statement.signer (eqb j (last_asked s (j + 1) (cond (asked s t) j l) ts)) c place) place (λ c'. helds_from accepts terms rs s (last_asked s (j + 1) (cond (asked s t) j l) ts) (j + 1) c' (place + 1) ts) g k.1 in
          let o = one_passed s t.statement.signer (eqb j (last_asked s (j + 1) (cond (asked s t) j l) ts)) c p.value place p.first in
          let here = eq-eqb j (last_asked s (j + 1) (cond (asked s t) j l) ts) (sym (last_stays s (j + 1) (cond (asked s t) j l) ts none_left ∙ ap (λ b. cond b j l) k.0)) in
          ap (λ (x : Tally). x.clash) (sym (still s (last_asked s (j + 1) (cond (asked s t) j l) ts) (j + 1) p.value (place + 1) ts g none_left p.second)) ∙ calm_of (eqb j (last_asked s (j + 1) (cond (asked s t) j l) ts)) p.value.clash here o.calm

  calm : (s place : ℕ) (ts : List Sealed) (g : Found Tally) → helds accepts terms rs s place ts ≡ Ok g → g.value.clash ≡ false
  calm s place ts g e = go (cases_Bool (some_asked s ts))
    where
      go : (some_asked s ts ≡ true) ⊎ (some_asked s ts ≡ false) → g.value.clash ≡ false
      go (inl h) = calmed s 0 0 blank place ts g h e
      go (inr h) = ap (λ (x : Tally). x.clash) (sym (still s (last_asked s 0 0 ts) 0 blank place ts g h e))

  -- a claim: who is asked has answered, below the new epoch, and q prepares stand behind it
  pub record Claimed (ts : List Sealed) (s : ℕ) (c : Claim) : Type 0 where
    pub each : AllByRecursion (Answered s (settled c)) ts
    pub empty : c.epoch ≡ 0 → c.digest ≡ value_of 0
    pub below : 1 ≤ terms.epoch → c.epoch < terms.epoch
    pub backed : 1 ≤ c.epoch → (p : ℕ) × (p' : ℕ) × Stood signer_of (exactly accepts Prepare c.epoch s c.digest) terms.threshold.n terms.threshold.q p 0 (drop p rs) p'

  record Shown (ts : List Sealed) (s place : ℕ) (f : Found Claim) : Type 0 where
    covered : Covered place f.next
    claimed : Claimed ts s f.value

  shown : (ts : List Sealed) (s place : ℕ) (f : Found Claim) → found accepts terms rs ts s place ≡ Ok f → Shown ts s place f
  shown ts s place f e =
      let a = through _ _ f e in
      let w = answers s _ 0 _ place ts a.value a.first in
      go a.value w (calm s place ts a.value a.first) (went (eqb a.value.value.claim.epoch 0) _ _ _ a.second)
    where
      go : (g : Found Tally) → Answers s place ts blank g → g.value.clash ≡ false
          → ((eqb g.value.claim.epoch 0 ≡ true) × (◌≡◌ {A = Result (Found Claim) ℕ} (Ok (record { value = g.value.claim; next = g.next })) (Ok f)))
          ⊎ ((eqb g.value.claim.epoch 0 ≡ false) × (onward (grouped signer_of (exactly accepts Prepare g.value.claim.epoch s g.value.claim.digest) terms.threshold.n terms.threshold.q g.next 0 (drop g.next rs)) (λ p. Ok (record { value = g.value.claim; next = p })) ≡ Ok f))
          → Shown ts s place f
      go g w calm-is (inl h) =
          subst (Shown ts s place) (ok_is _ f h.1) (record {
            covered = w.covered;
            claimed = record { each = subst (λ z. AllByRecursion (Answered s z) ts) (λ i. record { claim = g.value.claim; clash = calm-is i }) w.each; empty = w.empty (λ _. refl); below = λ k. w.below (omega arith); backed = λ k. absurd (omega (arith, eqb-true _ _ h.0)) };
          })
      go g w calm-is (inr h) =
          let b = through _ _ f h.1 in
          let st = stood signer_of (exactly accepts Prepare g.value.claim.epoch s g.value.claim.digest) terms.threshold.n terms.threshold.q g.next 0 (drop g.next rs) b.value b.first in
          subst (Shown ts s place) (ok_is _ f b.second) (record {
            covered = covers place g.next b.value w.covered (group_covers (exactly accepts Prepare g.value.claim.epoch s g.value.claim.digest) terms.threshold.q g.next b.value (λ r k. (exact_is accepts Prepare _ s _ r k).1) st);
            claimed = record { each = subst (λ z. AllByRecursion (Answered s z) ts) (λ i. record { claim = g.value.claim; clash = calm-is i }) w.each; empty = w.empty (λ _. refl); below = λ k. w.below (omega arith); backed = λ k. (g.next, b.value, st) };
          })

  -- the claims of the numbers from s on
  abbrev pub Row : List Sealed → ℕ → List Claim → Type 0
  Row ts s [] = Unit {0}
  Row ts s (c ∷ cs) = Claimed ts s c × Row ts (s + 1) cs

  pub record Counted (ts : List Sealed) (k s place : ℕ) (cs : List Claim) (w : Found (List Claim)) : Type 0 where
    pub ds : List Claim
    pub is : w.value ≡ cs ++ ds
    pub size : length ds ≡ k
    pub row : Row ts s ds
    pub covered : Covered place w.next

  pub counted : (ts : List Sealed) (k s place : ℕ) (cs : List Claim) (w : Found (List Claim)) → numbers accepts terms rs ts k s place cs ≡ Ok w → Counted ts k s place cs w
  unfolding numbers
  counted ts zero s place cs w e =
      subst (Counted ts zero s place cs) (ok_is _ w e) (record { ds = []; is = sym (append-nil cs); size = refl; row = tt; covered = λ i l u h. absurd (omega arith) })
  counted ts (suc k) s place cs w e =
      let a = through _ _ w e in
      let f = a.value in
      let x = shown ts s place f a.first in
      let y = counted ts k (s + 1) f.next (cs ++ f.value ∷ []) w a.second in
      record { ds = f.value ∷ y.ds; is = y.is ∙ append_assoc cs (f.value ∷ []) y.ds; size = ap suc y.size; row = (x.claimed, y.row); covered = covers place f.next w.next x.covered y.covered }

  -- the claim at a place of the row
  pub row_at : (ts : List Sealed) (s : ℕ) (cs : List Claim) (j : ℕ) → Row ts s cs → j < length cs → Claimed ts (s + j) (get_or cs j no_claim)
  row_at ts s [] j r h = absurd (omega arith)
  row_at ts s (c ∷ cs) zero r h = let z : s ≡ s + 0 = omega arith in subst (λ t. Claimed ts t c) z r.0
  row_at ts s (c ∷ cs) (suc j) r h =
      let z : s + 1 + j ≡ s + suc j = omega arith in
      subst (λ t. Claimed ts t (get_or cs j no_claim)) z (row_at ts (s + 1) cs j r.1 (omega arith))
