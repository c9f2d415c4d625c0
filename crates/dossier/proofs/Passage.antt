-- What a walk that came through went through.
use Rattle.std.proofs.Common.{◌≡◌, ℕ, ◌+◌, ◌≤◌, Bool, true, false, cond, ltb, ◌⊎◌, List, [], length, take, Ok, Err, Result, refl, ap, subst, inl, inr, arith}
use Rattle.std.proofs.lemmas.Bool.{ltb-false}
use Rattle.wire.specs.declared.records.Statement.{Statement}
use Rattle.wire.specs.declared.records.Sealed.{Sealed}
use Rattle.seal.specs.Records.{signer_of}
use Rattle.group.specs.Group.{Stood}
use Rattle.group.proofs.Groups.{stood}
use Rattle.dossier.specs.declared.parts.Terms.{Terms}
use Rattle.dossier.specs.declared.parts.Claim.{Claim}
use Rattle.dossier.specs.declared.tally.Found.{Found}
use Rattle.dossier.specs.declared.parts.Opened.{Opened}
use Rattle.dossier.specs.Walk.{onward, largest, mark_at, stable_fits, numbers, checkpoints, walked}
use Rattle.dossier.proofs.Steps.{stables_enough}

pub record Through {A B : Type 0} (x : Result A ℕ) (f : A → Result B ℕ) (b : B) : Type 0 where
  pub value : A
  pub first : x ≡ Ok value
  pub second : f value ≡ Ok b

-- a part after another has both come through
pub through : {A B : Type 0} (x : Result A ℕ) (f : A → Result B ℕ) (b : B) → onward x f ≡ Ok b → Through x f b
through (Ok a) f b e = record { value = a; first = refl; second = e }
through (Err i) f b e = absurd cc

pub ok_is : {A : Type 0} (a b : A) → ◌≡◌ {A = Result A ℕ} (Ok a) (Ok b) → a ≡ b
ok_is a b e = cc

-- which way a test went
pub went : {A : Type 0} (t : Bool) (x y z : A) → cond t x y ≡ z → ((t ≡ true) × (x ≡ z)) ⊎ ((t ≡ false) × (y ≡ z))
went true x y z e = inl (refl, e)
went false x y z e = inr (refl, e)

module _ (accepts : Statement → ℕ → Bool) (terms : Terms) (rs : List Sealed) where
  pub record Parts (o : Opened) : Type 0 where
    pub stables : Stood signer_of (stable_fits accepts terms) terms.threshold.n terms.threshold.q 0 0 rs terms.threshold.q
    pub base_is : o.base ≡ largest (take terms.threshold.q rs)
    pub mark_is : o.mark ≡ mark_at rs o.base terms.threshold.q
    pub low : o.base ≤ 1000000000000
    pub start : ℕ
    pub marked : checkpoints accepts terms rs o.base terms.threshold.q ≡ Ok start
    pub end : ℕ
    pub counted : numbers accepts terms rs (take terms.threshold.q rs) 32 (o.base + 1) start [] ≡ Ok (record { value = o.claims; next = end })
    pub whole : length rs ≤ end

  pub parts : (o : Opened) → walked accepts terms rs ≡ Ok o → Parts o
  parts o e =
      let a = through _ _ _ e in
      let w = stood signer_of (stable_fits accepts terms) terms.threshold.n terms.threshold.q 0 0 rs a.value a.first in
      let k : a.value ≡ terms.threshold.q = omega (arith, w.after) in
      let b = through _ _ _ a.second in
      let c = through _ _ _ b.second in
      finish a.value k w (stables_enough accepts terms rs _ a.value refl a.first).1 b.value b.first c.value c.first (went (ltb c.value.next (length rs)) _ _ _ c.second)
    where
      B : ℕ
      B = largest (take terms.threshold.q rs)

      finish : (p : ℕ) → p ≡ terms.threshold.q → Stood signer_of (stable_fits accepts terms) terms.threshold.n terms.threshold.q 0 0 rs p → B ≤ 1000000000000 → (s : ℕ) → checkpoints accepts terms rs B p ≡ Ok s → (w : Found (List Claim)) → numbers accepts terms rs (take terms.threshold.q rs) 32 (B + 1) s [] ≡ Ok w
          → ((ltb w.next (length rs) ≡ true) × (◌≡◌ {A = Result Opened ℕ} (Err w.next) (Ok o))) ⊎ ((ltb w.next (length rs) ≡ false) × (◌≡◌ {A = Result Opened ℕ} (Ok (record { base = B; mark = mark_at rs B p; claims = w.value })) (Ok o)))
          → Parts o
      finish p k st low s es w ew (inl h) = absurd cc
      finish p k st low s es w ew (inr h) =
          subst Parts (ok_is _ o h.1) (record {
            stables = subst (λ z. Stood signer_of (stable_fits accepts terms) terms.threshold.n terms.threshold.q 0 0 rs z) k st;
            base_is = refl;
            mark_is = ap (mark_at rs B) k;
            low = low;
            start = s;
            marked = subst (λ z. checkpoints accepts terms rs B z ≡ Ok s) k es;
            end = w.next;
            counted = ew;
            whole = ltb-false w.next (length rs) h.0;
          })
