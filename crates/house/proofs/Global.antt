-- From what holds of each honest controller by itself to the house: a quorum of commits settles a number.
use Rattle.std.proofs.Common.{◌≡◌, ℕ, zero, suc, ◌+◌, ◌<◌, ◌≤◌, Bool, true, ◌&&◌, leb, ◌⊎◌, List, sym, refl, ◌∙◌, subst, inl, inr, arith}
use Rattle.std.proofs.lemmas.Bool.{cases_order}
use Rattle.wire.specs.declared.records.DigestValue.{DigestValue}
use Rattle.wire.specs.declared.records.Statement.{Statement}
use Rattle.quorum.specs.Sets.{Backed, Trusty}
use Rattle.quorum.proofs.Counting.{meet}
use Rattle.dossier.specs.Walk.{top}
use Rattle.dossier.specs.Laws.{prepare_by, stable_by, held_by, highest_of, digest_of, Said}
use Rattle.house.specs.Runs.{Has}
use Rattle.house.proofs.Sketch.{Sketch, Seen, Inv, commit_by}
use Rattle.wire.specs.Kinds.{of_controllers}

-- all honest controllers, and that what was issued under the name of one of them it issued
pub record Locals (n q : ℕ) (honest : ℕ → Bool) (Issued : Statement → Type 0) : Type 0 where
  pub sketch : ℕ → Sketch
  pub issued : ℕ → List Statement
  pub inv : (k : ℕ) → honest k ≡ true → Inv n q k honest Issued (sketch k) (issued k)
  pub own : (a : Statement) → honest a.signer ≡ true → of_controllers a.kind ≡ true → Issued a → Has (issued a.signer) a

module _ (n f q : ℕ) (honest : ℕ → Bool) (trusty : Trusty n f q honest) (Issued : Statement → Type 0) (L : Locals n q honest Issued) where
  -- a quorum of commits
  abbrev pub CQ : ℕ → ℕ → DigestValue → Type 0
  CQ e s d = Backed n q honest (λ i. Issued (commit_by i e s d))

  common : {P Q : ℕ → Type 0} → Backed n q honest P → Backed n q honest Q → (i : ℕ) × (honest i ≡ true) × P i × Q i
  common a b = let w = meet n f q honest trusty _ _ a b in (w.who, w.is_honest, w.left w.is_honest, w.right w.is_honest)

  -- an honest controller of the quorum committed the number later on as well
  abbrev Stays : ℕ → ℕ → DigestValue → ℕ → Type 0
  Stays e s d bound =
      (j e* : ℕ) (d* : DigestValue) → e* < bound → honest j ≡ true → Has (L.issued j) (commit_by j e s d) → e < e* → Has (L.issued j) (prepare_by j e* s d*) → d* ≡ d

  -- a dossier for a later epoch that starts below s keeps what was committed there
  kept : (x : Seen n q honest Issued) (e s : ℕ) (d : DigestValue) → CQ e s d → e < x.target → x.o.base < s → Stays e s d x.target → (s ≤ top x.o) × (digest_of x.o s ≡ d)
  kept x e s d a lt above ih =
      let w = common a x.sound.signers in
      go w.0 w.1 (L.own (commit_by w.0 e s d) w.1 refl w.2) w.3
    where
      found : 1 ≤ e → e ≤ highest_of x.o s → (s ≤ top x.o) × (digest_of x.o s ≡ d)
      found begun he =
          let w = common a (x.sound.claim_backed s above (omega arith)) in
          let j = w.0 in
          let c = L.own (commit_by j e s d) w.1 refl w.2 in
          let p = L.own (prepare_by j (highest_of x.o s) s (digest_of x.o s)) w.1 refl w.3 in
          (x.sound.claim_within s above (omega arith), same j w.1 c p (cases_order e (highest_of x.o s)))
        where
          same : (j : ℕ) → honest j ≡ true → Has (L.issued j) (commit_by j e s d) → Has (L.issued j) (prepare_by j (highest_of x.o s) s (digest_of x.o s))
              → (e ≡ highest_of x.o s) ⊎ ((e < highest_of x.o s) ⊎ (highest_of x.o s < e)) → digest_of x.o s ≡ d
          same j hon c p (inl k) =
              (L.inv j hon).one_prepare e s (digest_of x.o s) d (subst (λ z. Has (L.issued j) (prepare_by j z s (digest_of x.o s))) (sym k) p) ((L.inv j hon).commit_prepared e s d c)
          same j hon c p (inr (inl k)) = ih j (highest_of x.o s) (digest_of x.o s) (x.sound.claim_below x.begun s) hon c k p
          same j hon c p (inr (inr k)) = absurd (omega arith)

      go : (i : ℕ) → honest i ≡ true → Has (L.issued i) (commit_by i e s d) → Said Issued x.target i x.o → (s ≤ top x.o) × (digest_of x.o s ≡ d)
      go i hon c said =
          let st = L.own (stable_by i x.target said.m) hon refl said.stable in
          far ((L.inv i hon).commit_old e s d c).0 ((L.inv i hon).kept e s d x.target said.m c st lt)
        where
          far : 1 ≤ e → (s ≤ said.m) ⊎ ((s ≤ said.m + 32) × ((he : ℕ) (d' : DigestValue) → Has (L.issued i) (held_by i x.target s he d') → e ≤ he)) → (s ≤ top x.o) × (digest_of x.o s ≡ d)
          far begun (inl h) = absurd (omega (arith, said.low))
          far begun (inr h) =
              let held = said.held s above h.0 in
              let mine = L.own (held_by i x.target s held.e held.d) hon refl held.issued in
              found begun (omega (arith, held.no_higher, h.1 held.e held.d mine))

  -- by strong induction on the later epoch, which is below the bound
  later : (bound e s : ℕ) (d : DigestValue) → CQ e s d → Stays e s d bound
  later zero e s d a j e* d* lt hon c k p = absurd (omega arith)
  later (suc bound) e s d a j e* d* lt hon c k p =
      let x = (L.inv j hon).crossed e s d e* d* c p k in
      let h = kept x.seen e s d a x.after x.above (λ i e' d' l. later bound e s d a i e' d' (omega (arith, x.upto))) in
      (x.chosen h.0).1 ∙ h.1

  pub stays : (e s : ℕ) (d : DigestValue) → CQ e s d → (k e' : ℕ) (d' : DigestValue) → honest k ≡ true → Has (L.issued k) (commit_by k e s d) → e < e' → Has (L.issued k) (prepare_by k e' s d') → d' ≡ d
  stays e s d a k e' d' hon c l p = later (suc e') e s d a k e' d' (omega arith) hon c l p

  -- two quorums of commits at one number name one digest
  pub one_digest : (s e : ℕ) (d : DigestValue) (e' : ℕ) (d' : DigestValue) → CQ e s d → CQ e' s d' → d ≡ d'
  one_digest s e d e' d' a b =
      let w = common a b in
      let k = w.0 in
      let c = L.own (commit_by k e s d) w.1 refl w.2 in
      let c' = L.own (commit_by k e' s d') w.1 refl w.3 in
      go k w.1 c c' (cases_order e e')
    where
      go : (k : ℕ) → honest k ≡ true → Has (L.issued k) (commit_by k e s d) → Has (L.issued k) (commit_by k e' s d') → (e ≡ e') ⊎ ((e < e') ⊎ (e' < e)) → d ≡ d'
      go k hon c c' (inl h) =
          (L.inv k hon).one_prepare e' s d d' (subst (λ z. Has (L.issued k) (prepare_by k z s d)) h ((L.inv k hon).commit_prepared e s d c)) ((L.inv k hon).commit_prepared e' s d' c')
      go k hon c c' (inr (inl h)) = sym (stays e s d a k e' d' hon c h ((L.inv k hon).commit_prepared e' s d' c'))
      go k hon c c' (inr (inr h)) = stays e' s d' b k e d hon c' h ((L.inv k hon).commit_prepared e s d c)

  -- where a digest comes from: an offer, or nothing; by descent through the epochs
  module _ (Offered : DigestValue → Type 0) (empty : DigestValue)
      (origin : (k e s : ℕ) (d : DigestValue) → honest k ≡ true → Has (L.issued k) (prepare_by k e s d)
      → Offered d ⊎ ((d ≡ empty) ⊎ ((e* : ℕ) × (e* < e) × Backed n q honest (λ i. Issued (prepare_by i e* s d))))) where
    down : (bound k e s : ℕ) (d : DigestValue) → e < bound → honest k ≡ true → Has (L.issued k) (prepare_by k e s d) → Offered d ⊎ (d ≡ empty)
    down zero k e s d lt hon p = absurd (omega arith)
    down (suc bound) k e s d lt hon p = go (origin k e s d hon p) (λ i e* l o h. down bound i e* s d (omega arith) o h)
      where
        go : Offered d ⊎ ((d ≡ empty) ⊎ ((e* : ℕ) × (e* < e) × Backed n q honest (λ i. Issued (prepare_by i e* s d)))) → ((i e* : ℕ) → e* < e → honest i ≡ true → Has (L.issued i) (prepare_by i e* s d) → Offered d ⊎ (d ≡ empty)) → Offered d ⊎ (d ≡ empty)
        go (inl h) ih = inl h
        go (inr (inl h)) ih = inr h
        go (inr (inr h)) ih =
            let w = common h.2 h.2 in
            ih w.0 h.0 h.1 w.1 (L.own (prepare_by w.0 h.0 s d) w.1 refl w.2)

    pub offered : (e s : ℕ) (d : DigestValue) → CQ e s d → Offered d ⊎ (d ≡ empty)
    offered e s d a =
        let w = common a a in
        let c = L.own (commit_by w.0 e s d) w.1 refl w.2 in
        down (suc e) w.0 e s d (omega arith) w.1 ((L.inv w.0 w.1).commit_prepared e s d c)
