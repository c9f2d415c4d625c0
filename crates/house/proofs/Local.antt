-- Each step of a controller keeps what holds of it, by itself.
use Rattle.std.proofs.Common.{◌≡◌, ℕ, ◌+◌, ◌<◌, ◌≤◌, Bool, true, false, ◌⊎◌, List, [], ◌∷◌, is_some, Some, None, Option, sym, refl, ap, ◌∙◌, subst, inl, inr, arith}
use Rattle.std.proofs.lemmas.Bool.{cases_eq, cases_lt, false≢true, both_ways}
use Rattle.wire.specs.declared.records.DigestValue.{DigestValue}
use Rattle.wire.specs.declared.records.Statement.{Statement}
use Rattle.dossier.specs.Walk.{top}
use Rattle.dossier.specs.Laws.{prepare_by, stable_by, held_by, digest_of}
use Rattle.house.specs.Runs.{Has}
use Rattle.house.proofs.Sketch.{Sketch, commit_by, is_filled, Seen, Old, Link, Crossed, Inv, Same, Fills, Certifies, Settles, GivesUp, Enters, Turns}
use Rattle.house.proofs.Options.{some_is}
use Rattle.wire.specs.declared.kinds.Kind.TheVariants.{Prepare, Checkpoint, Stable, Held}
use Rattle.wire.proofs.KindBytes.{kinds_apart}

-- what an option holds
some_of : {A : Type 0} (o : Option A) → is_some o ≡ true → (a : A) × (o ≡ Some a)
some_of None h = absurd (false≢true h)
some_of (Some a) h = (a, refl)

is_some_lem : {A : Type 0} (o : Option A) (a : A) → o ≡ Some a → is_some o ≡ true
is_some_lem {A} o a e = ap (λ (z : Option A). is_some z) e

none_some : {A : Type 0} (o : Option A) → o ≡ None → is_some o ≡ true → ⊥
none_some {A} o e h = both_ways (is_some o) (ap (λ (z : Option A). is_some z) e) h

right : {A B C : Type 0} → (B → C) → A ⊎ B → A ⊎ C
right f (inl a) = inl a
right f (inr b) = inr (f b)

kind_of : {a b : Statement} → a ≡ b → a.kind ≡ b.kind
kind_of h = ap (λ (a : Statement). a.kind) h

epoch_of : {a b : Statement} → a ≡ b → a.epoch ≡ b.epoch
epoch_of h = ap (λ (a : Statement). a.epoch) h

number_of : {a b : Statement} → a ≡ b → a.number ≡ b.number
number_of h = ap (λ (a : Statement). a.number) h

held_of : {a b : Statement} → a ≡ b → a.held ≡ b.held
held_of h = ap (λ (a : Statement). a.held) h

value_is : {a b : Statement} → a ≡ b → a.digest ≡ b.digest
value_is h = ap (λ (a : Statement). a.digest) h

-- what is old stays old while neither the epoch nor its end changes
old_same : (S R : Sketch) → R.epoch ≡ S.epoch → R.changing ≡ S.changing → (e : ℕ) → Old S e → Old R e
old_same S R p c e o = (omega (arith, p, o.0), λ k. omega (arith, p, o.1 (sym c ∙ k)))

-- what giving up tells of: the stable number, and a certificate
abbrev Told : ℕ → Sketch → Statement → Type 0
Told self S a =
    (a ≡ stable_by self (S.epoch + 1) S.stable)
    ⊎ ((s : ℕ) × (d : DigestValue) × (S.stable < s) × (s ≤ S.stable + 32) × (a ≡ held_by self (S.epoch + 1) s (S.cert s) d))

-- a prepare of a filled number
abbrev Filled : ℕ → ℕ → Sketch → Statement → Type 0
Filled self epoch R a = (s : ℕ) × (d : DigestValue) × (R.filled s ≡ Some d) × (a ≡ prepare_by self epoch s d)

module _ (n q self : ℕ) (honest : ℕ → Bool) (Issued : Statement → Type 0) where
  -- a link of the present epoch stays as long as what is filled stays or becomes stable
  link_same : (S R : Sketch) (e s : ℕ) → R.epoch ≡ S.epoch → S.stable ≤ R.stable → (is_filled S s → (s ≤ R.stable) ⊎ is_filled R s)
      → Link n q honest Issued S e s → Link n q honest Issued R e s
  link_same S R e s p up more l =
      record {
        seen = l.seen;
        after = l.after;
        upto = omega (arith, p, l.upto);
        above = l.above;
        filled = λ k. let w = l.filled k in (w.0 ∙ sym p, go w.1);
      }
    where
      go : (s ≤ S.stable) ⊎ is_filled S s → (s ≤ R.stable) ⊎ is_filled R s
      go (inl u) = inl (omega arith)
      go (inr u) = more u

  -- nothing that matters changes, and only checkpoints are added
  pub same_inv : (S R : Sketch) (before after : List Statement) → Same S R → ((a : Statement) → Has before a → Has after a)
      → ((a : Statement) → Has after a → Has before a ⊎ (a.kind ≡ Checkpoint)) → Inv n q self honest Issued S before → Inv n q self honest Issued R after
  same_inv S R before after st more only inv =
      record {
        begun = omega (arith, st.epoch, inv.begun);
        filled_window = λ s h. let w = inv.filled_window s (back s h) in (omega (arith, st.stable, w.0), omega (arith, st.stable, w.1));
        prepare_old = λ e s d h. old_same S R st.epoch st.changing e (inv.prepare_old e s d (prepare_was e s d h));
        commit_old = λ e s d h. let w = inv.commit_old e s d (commit_was e s d h) in (w.0, old_same S R st.epoch st.changing e w.1, omega (arith, st.stable, w.2));
        commit_prepared = λ e s d h. more _ (inv.commit_prepared e s d (commit_was e s d h));
        prepare_here = λ e s d h k. place s (inv.prepare_here e s d (prepare_was e s d h) (k ∙ st.epoch));
        filled_prepared = λ s d c f. more _ (subst (λ (y : ℕ). Has before (prepare_by self y s d)) (sym st.epoch) (inv.filled_prepared s d (sym st.changing ∙ c) (sym (st.filled s) ∙ f)));
        one_prepare = λ e s d d' h k. inv.one_prepare e s d d' (prepare_was e s d h) (prepare_was e s d' k);
        commit_cert = λ e s d h. cert e s (inv.commit_cert e s d (commit_was e s d h));
        stable_old = λ t m h. omega (arith, st.epoch, inv.stable_old t m (was _ (λ z. kinds_apart z refl) h));
        held_old = λ t s he d h. omega (arith, st.epoch, inv.held_old t s he d (was _ (λ z. kinds_apart z refl) h));
        kept = λ e s d t m h k l. right (λ w. (w.0, λ he d' u. w.1 he d' (was _ (λ z. kinds_apart z refl) u))) (inv.kept e s d t m (commit_was e s d h) (was _ (λ z. kinds_apart z refl) k) l);
        first_last = λ l h. omega (arith, st.first, inv.first_last l (sym st.last ∙ h));
        filled_last = λ l s h f. inv.filled_last l s (sym st.last ∙ h) (back s f);
        gap = λ c e s d h l. gap e s (inv.gap (sym st.changing ∙ c) e s d (commit_was e s d h) (omega (arith, st.epoch)));
        crossed = λ e s d e' d' h k l. inv.crossed e s d e' d' (commit_was e s d h) (prepare_was e' s d' k) l;
      }
    where
      was : (a : Statement) → (a.kind ≡ Checkpoint → ⊥) → Has after a → Has before a
      was a other h = go (only a h)
        where
          go : Has before a ⊎ (a.kind ≡ Checkpoint) → Has before a
          go (inl w) = w
          go (inr w) = absurd (other w)

      prepare_was : (e s : ℕ) (d : DigestValue) → Has after (prepare_by self e s d) → Has before (prepare_by self e s d)
      prepare_was e s d h = was _ (λ z. kinds_apart z refl) h

      commit_was : (e s : ℕ) (d : DigestValue) → Has after (commit_by self e s d) → Has before (commit_by self e s d)
      commit_was e s d h = was _ (λ z. kinds_apart z refl) h

      back : (s : ℕ) → is_filled R s → is_filled S s
      back s h = subst (λ (z : Option DigestValue). is_some z ≡ true) (st.filled s) h

      forth : (s : ℕ) → is_filled S s → is_filled R s
      forth s h = subst (λ (z : Option DigestValue). is_some z ≡ true) (sym (st.filled s)) h

      place : (s : ℕ) → (s ≤ S.stable) ⊎ is_filled S s → (s ≤ R.stable) ⊎ is_filled R s
      place s (inl u) = inl (omega (arith, st.stable))
      place s (inr u) = inr (forth s u)

      cert : (e s : ℕ) → (s ≤ S.stable) ⊎ (e ≤ S.cert s) → (s ≤ R.stable) ⊎ (e ≤ R.cert s)
      cert e s (inl u) = inl (omega (arith, st.stable))
      cert e s (inr u) = inr (omega (arith, st.cert s))

      gap : (e s : ℕ) → (s < S.first) ⊎ ((s ≤ S.stable) ⊎ Link n q honest Issued S e s) → (s < R.first) ⊎ ((s ≤ R.stable) ⊎ Link n q honest Issued R e s)
      gap e s (inl u) = inl (omega (arith, st.first))
      gap e s (inr (inl u)) = inr (inl (omega (arith, st.stable)))
      gap e s (inr (inr u)) = inr (inr (link_same S R e s st.epoch (omega (arith, st.stable)) (λ f. inr (forth s f)) u))

  -- a free number is filled, and prepared
  pub fills_inv : (S R : Sketch) (s : ℕ) (d : DigestValue) (issued : List Statement) → Fills S R s d → Inv n q self honest Issued S issued
      → Inv n q self honest Issued R (prepare_by self S.epoch s d ∷ issued)
  fills_inv S R s d issued st inv =
      record {
        begun = omega (arith, st.epoch, inv.begun);
        filled_window = λ x h. window x h (cases_eq x s);
        prepare_old = prepare_old;
        commit_old = λ e x d' h. let w = inv.commit_old e x d' (commit_was e x d' h) in (w.0, old_same S R st.epoch st.changing e w.1, omega (arith, st.stable, w.2));
        commit_prepared = λ e x d' h. inr (inv.commit_prepared e x d' (commit_was e x d' h));
        prepare_here = prepare_here;
        filled_prepared = λ x d' c f. prepared x d' f (cases_eq x s);
        one_prepare = one_prepare;
        commit_cert = λ e x d' h. cert e x (inv.commit_cert e x d' (commit_was e x d' h));
        stable_old = λ t m h. omega (arith, st.epoch, inv.stable_old t m (stable_was t m h));
        held_old = λ t x he d' h. omega (arith, st.epoch, inv.held_old t x he d' (held_was t x he d' h));
        kept = λ e x d' t m h k l. right (λ w. (w.0, λ he d'' u. w.1 he d'' (held_was t x he d'' u))) (inv.kept e x d' t m (commit_was e x d' h) (stable_was t m k) l);
        first_last = λ l h. omega (arith, st.first, inv.first_last l (sym st.last ∙ h));
        filled_last = λ l x h f. last l x (sym st.last ∙ h) f (cases_eq x s);
        gap = λ c e x d' h l. gap e x (inv.gap st.steady e x d' (commit_was e x d' h) (omega (arith, st.epoch)));
        crossed = crossed;
      }
    where
      commit_was : (e x : ℕ) (d' : DigestValue) → Has (prepare_by self S.epoch s d ∷ issued) (commit_by self e x d') → Has issued (commit_by self e x d')
      commit_was e x d' (inl h) = absurd (kinds_apart (kind_of h) refl)
      commit_was e x d' (inr h) = h

      stable_was : (t m : ℕ) → Has (prepare_by self S.epoch s d ∷ issued) (stable_by self t m) → Has issued (stable_by self t m)
      stable_was t m (inl h) = absurd (kinds_apart (kind_of h) refl)
      stable_was t m (inr h) = h

      held_was : (t x he : ℕ) (d' : DigestValue) → Has (prepare_by self S.epoch s d ∷ issued) (held_by self t x he d') → Has issued (held_by self t x he d')
      held_was t x he d' (inl h) = absurd (kinds_apart (kind_of h) refl)
      held_was t x he d' (inr h) = h

      back : (x : ℕ) → (x ≡ s → ⊥) → is_filled R x → is_filled S x
      back x other h = subst (λ (z : Option DigestValue). is_some z ≡ true) (st.else x other) h

      full : (x : ℕ) → x ≡ s → is_filled R x
      full x k = subst (λ (z : ℕ). is_filled R z) (sym k) (is_some_lem (R.filled s) d st.here)

      forth : (x : ℕ) → is_filled S x → is_filled R x
      forth x h = go (cases_eq x s)
        where
          go : (x ≡ s) ⊎ (x ≡ s → ⊥) → is_filled R x
          go (inl k) = full x k
          go (inr k) = subst (λ (z : Option DigestValue). is_some z ≡ true) (sym (st.else x k)) h

      free : (x : ℕ) → x ≡ s → is_filled S x → ⊥
      free x k h = none_some (S.filled s) st.was (subst (λ (z : ℕ). is_filled S z) k h)

      window : (x : ℕ) → is_filled R x → (x ≡ s) ⊎ (x ≡ s → ⊥) → (R.stable < x) × (x ≤ R.stable + 32)
      window x h (inl k) = (omega (arith, st.stable, st.low), omega (arith, st.stable, st.high))
      window x h (inr k) = let w = inv.filled_window x (back x k h) in (omega (arith, st.stable, w.0), omega (arith, st.stable, w.1))

      prepare_old : (e x : ℕ) (d' : DigestValue) → Has (prepare_by self S.epoch s d ∷ issued) (prepare_by self e x d') → Old R e
      prepare_old e x d' (inl h) = (omega (arith, st.epoch, epoch_of h), λ k. absurd (both_ways S.changing st.steady (sym st.changing ∙ k)))
      prepare_old e x d' (inr h) = old_same S R st.epoch st.changing e (inv.prepare_old e x d' h)

      place : (x : ℕ) → (x ≤ S.stable) ⊎ is_filled S x → (x ≤ R.stable) ⊎ is_filled R x
      place x (inl u) = inl (omega (arith, st.stable))
      place x (inr u) = inr (forth x u)

      prepare_here : (e x : ℕ) (d' : DigestValue) → Has (prepare_by self S.epoch s d ∷ issued) (prepare_by self e x d') → e ≡ R.epoch → (x ≤ R.stable) ⊎ is_filled R x
      prepare_here e x d' (inl h) k = inr (full x (sym (number_of h)))
      prepare_here e x d' (inr h) k = place x (inv.prepare_here e x d' h (k ∙ st.epoch))

      prepared : (x : ℕ) (d' : DigestValue) → R.filled x ≡ Some d' → (x ≡ s) ⊎ (x ≡ s → ⊥) → Has (prepare_by self S.epoch s d ∷ issued) (prepare_by self R.epoch x d')
      prepared x d' f (inl k) =
          let v : d ≡ d' = some_is d d' (sym st.here ∙ (ap (λ (z : ℕ). R.filled z) (sym k) ∙ f)) in
          inl (λ j. prepare_by self (sym st.epoch j) (sym k j) (v j))
      prepared x d' f (inr k) = inr (subst (λ (y : ℕ). Has issued (prepare_by self y x d')) (sym st.epoch) (inv.filled_prepared x d' st.steady (sym (st.else x k) ∙ f)))

      -- the number was free, so there is no such prepare yet
      fresh : (e x : ℕ) (d' : DigestValue) → Has issued (prepare_by self e x d') → e ≡ S.epoch → x ≡ s → ⊥
      fresh e x d' h k u = go (inv.prepare_here e x d' h k)
        where
          go : (x ≤ S.stable) ⊎ is_filled S x → ⊥
          go (inl l) = omega (arith, st.low)
          go (inr l) = free x u l

      one_prepare : (e x : ℕ) (d₁ d₂ : DigestValue) → Has (prepare_by self S.epoch s d ∷ issued) (prepare_by self e x d₁) → Has (prepare_by self S.epoch s d ∷ issued) (prepare_by self e x d₂) → d₁ ≡ d₂
      one_prepare e x d₁ d₂ (inl h) (inl k) = sym (value_is h) ∙ value_is k
      one_prepare e x d₁ d₂ (inl h) (inr k) = absurd (fresh e x d₂ k (sym (epoch_of h)) (sym (number_of h)))
      one_prepare e x d₁ d₂ (inr h) (inl k) = absurd (fresh e x d₁ h (sym (epoch_of k)) (sym (number_of k)))
      one_prepare e x d₁ d₂ (inr h) (inr k) = inv.one_prepare e x d₁ d₂ h k

      cert : (e x : ℕ) → (x ≤ S.stable) ⊎ (e ≤ S.cert x) → (x ≤ R.stable) ⊎ (e ≤ R.cert x)
      cert e x (inl u) = inl (omega (arith, st.stable))
      cert e x (inr u) = inr (omega (arith, st.cert x))

      last : (l x : ℕ) → S.last ≡ Some l → is_filled R x → (x ≡ s) ⊎ (x ≡ s → ⊥) → x ≤ l
      last l x h f (inl k) = omega (arith, st.to l h)
      last l x h f (inr k) = inv.filled_last l x h (back x k f)

      gap : (e x : ℕ) → (x < S.first) ⊎ ((x ≤ S.stable) ⊎ Link n q honest Issued S e x) → (x < R.first) ⊎ ((x ≤ R.stable) ⊎ Link n q honest Issued R e x)
      gap e x (inl u) = inl (omega (arith, st.first))
      gap e x (inr (inl u)) = inr (inl (omega (arith, st.stable)))
      gap e x (inr (inr u)) = inr (inr (link_same S R e x st.epoch (omega (arith, st.stable)) (λ f. inr (forth x f)) u))

      crossed : (e x : ℕ) (d₁ : DigestValue) (e' : ℕ) (d' : DigestValue) → Has (prepare_by self S.epoch s d ∷ issued) (commit_by self e x d₁) → Has (prepare_by self S.epoch s d ∷ issued) (prepare_by self e' x d')
          → e < e' → Crossed n q honest Issued e x e' d'
      crossed e x d₁ e' d' h (inr k) l = inv.crossed e x d₁ e' d' (commit_was e x d₁ h) k l
      crossed e x d₁ e' d' h (inl k) l = go (inv.gap st.steady e x d₁ (commit_was e x d₁ h) (omega (arith, epoch_of k)))
        where
          go : (x < S.first) ⊎ ((x ≤ S.stable) ⊎ Link n q honest Issued S e x) → Crossed n q honest Issued e x e' d'
          go (inl u) = absurd (omega (arith, number_of k, st.from))
          go (inr (inl u)) = absurd (omega (arith, number_of k, st.low))
          go (inr (inr u)) = record { seen = u.seen; after = u.after; upto = omega (arith, u.upto, epoch_of k); above = u.above; chosen = λ w. absurd (out (u.filled w).1) }
            where
              out : (x ≤ S.stable) ⊎ is_filled S x → ⊥
              out (inl w) = omega (arith, number_of k, st.low)
              out (inr w) = free x (sym (number_of k)) w

  -- a filled number gets its certificate, and is committed
  pub certifies_inv : (S R : Sketch) (s : ℕ) (d : DigestValue) (issued : List Statement) → Certifies S R s d → Inv n q self honest Issued S issued
      → Inv n q self honest Issued R (commit_by self S.epoch s d ∷ issued)
  certifies_inv S R s d issued st inv =
      record {
        begun = omega (arith, st.epoch, inv.begun);
        filled_window = λ x h. let w = inv.filled_window x (back x h) in (omega (arith, st.stable, w.0), omega (arith, st.stable, w.1));
        prepare_old = λ e x d' h. old_same S R st.epoch st.changing e (inv.prepare_old e x d' (prepare_was e x d' h));
        commit_old = commit_old;
        commit_prepared = commit_prepared;
        prepare_here = λ e x d' h k. place x (inv.prepare_here e x d' (prepare_was e x d' h) (k ∙ st.epoch));
        filled_prepared = λ x d' c f. inr (subst (λ (y : ℕ). Has issued (prepare_by self y x d')) (sym st.epoch) (inv.filled_prepared x d' st.steady (sym (st.filled x) ∙ f)));
        one_prepare = λ e x d₁ d₂ h k. inv.one_prepare e x d₁ d₂ (prepare_was e x d₁ h) (prepare_was e x d₂ k);
        commit_cert = commit_cert;
        stable_old = λ t m h. omega (arith, st.epoch, inv.stable_old t m (stable_was t m h));
        held_old = λ t x he d' h. omega (arith, st.epoch, inv.held_old t x he d' (held_was t x he d' h));
        kept = kept;
        first_last = λ l h. omega (arith, st.first, inv.first_last l (sym st.last ∙ h));
        filled_last = λ l x h f. inv.filled_last l x (sym st.last ∙ h) (back x f);
        gap = λ c. gap;
        crossed = crossed;
      }
    where
      prepare_was : (e x : ℕ) (d' : DigestValue) → Has (commit_by self S.epoch s d ∷ issued) (prepare_by self e x d') → Has issued (prepare_by self e x d')
      prepare_was e x d' (inl h) = absurd (kinds_apart (kind_of h) refl)
      prepare_was e x d' (inr h) = h

      stable_was : (t m : ℕ) → Has (commit_by self S.epoch s d ∷ issued) (stable_by self t m) → Has issued (stable_by self t m)
      stable_was t m (inl h) = absurd (kinds_apart (kind_of h) refl)
      stable_was t m (inr h) = h

      held_was : (t x he : ℕ) (d' : DigestValue) → Has (commit_by self S.epoch s d ∷ issued) (held_by self t x he d') → Has issued (held_by self t x he d')
      held_was t x he d' (inl h) = absurd (kinds_apart (kind_of h) refl)
      held_was t x he d' (inr h) = h

      back : (x : ℕ) → is_filled R x → is_filled S x
      back x h = subst (λ (z : Option DigestValue). is_some z ≡ true) (st.filled x) h

      forth : (x : ℕ) → is_filled S x → is_filled R x
      forth x h = subst (λ (z : Option DigestValue). is_some z ≡ true) (sym (st.filled x)) h

      place : (x : ℕ) → (x ≤ S.stable) ⊎ is_filled S x → (x ≤ R.stable) ⊎ is_filled R x
      place x (inl u) = inl (omega (arith, st.stable))
      place x (inr u) = inr (forth x u)

      commit_old : (e x : ℕ) (d' : DigestValue) → Has (commit_by self S.epoch s d ∷ issued) (commit_by self e x d') → (1 ≤ e) × Old R e × (x ≤ R.stable + 32)
      commit_old e x d' (inl h) = (
        omega (arith, inv.begun, epoch_of h),
        (omega (arith, st.epoch, epoch_of h), λ k. absurd (both_ways S.changing st.steady (sym st.changing ∙ k))),
        omega (arith, st.stable, number_of h, (inv.filled_window s (is_some_lem (S.filled s) d st.is)).1),
      )
      commit_old e x d' (inr h) = let w = inv.commit_old e x d' h in (w.0, old_same S R st.epoch st.changing e w.1, omega (arith, st.stable, w.2))

      commit_prepared : (e x : ℕ) (d' : DigestValue) → Has (commit_by self S.epoch s d ∷ issued) (commit_by self e x d') → Has (commit_by self S.epoch s d ∷ issued) (prepare_by self e x d')
      commit_prepared e x d' (inl h) = inr (subst (λ (a : Statement). Has issued (prepare_by self a.epoch a.number a.digest)) h (inv.filled_prepared s d st.steady st.is))
      commit_prepared e x d' (inr h) = inr (inv.commit_prepared e x d' h)

      commit_cert : (e x : ℕ) (d' : DigestValue) → Has (commit_by self S.epoch s d ∷ issued) (commit_by self e x d') → (x ≤ R.stable) ⊎ (e ≤ R.cert x)
      commit_cert e x d' (inl h) = inr (subst (λ (a : Statement). a.epoch ≤ R.cert a.number) h (omega (arith, st.here)))
      commit_cert e x d' (inr h) = go (cases_eq x s) (inv.commit_cert e x d' h)
        where
          go : (x ≡ s) ⊎ (x ≡ s → ⊥) → (x ≤ S.stable) ⊎ (e ≤ S.cert x) → (x ≤ R.stable) ⊎ (e ≤ R.cert x)
          go k (inl u) = inl (omega (arith, st.stable))
          go (inl k) (inr u) = inr (subst (λ (z : ℕ). e ≤ R.cert z) (sym k) (omega (arith, st.here, (inv.commit_old e x d' h).1.0)))
          go (inr k) (inr u) = inr (omega (arith, st.else x k))

      kept : (e x : ℕ) (d' : DigestValue) (t m : ℕ) → Has (commit_by self S.epoch s d ∷ issued) (commit_by self e x d') → Has (commit_by self S.epoch s d ∷ issued) (stable_by self t m) → e < t
          → (x ≤ m) ⊎ ((x ≤ m + 32) × ((he : ℕ) (d'' : DigestValue) → Has (commit_by self S.epoch s d ∷ issued) (held_by self t x he d'') → e ≤ he))
      kept e x d' t m (inl h) k l = absurd (omega (arith, epoch_of h, inv.stable_old t m (stable_was t m k)))
      kept e x d' t m (inr h) k l = right (λ w. (w.0, λ he d'' u. w.1 he d'' (held_was t x he d'' u))) (inv.kept e x d' t m h (stable_was t m k) l)

      gap : (e x : ℕ) (d' : DigestValue) → Has (commit_by self S.epoch s d ∷ issued) (commit_by self e x d') → e < R.epoch → (x < R.first) ⊎ ((x ≤ R.stable) ⊎ Link n q honest Issued R e x)
      gap e x d' (inl h) l = absurd (omega (arith, st.epoch, epoch_of h))
      gap e x d' (inr h) l = go (inv.gap st.steady e x d' h (omega (arith, st.epoch)))
        where
          go : (x < S.first) ⊎ ((x ≤ S.stable) ⊎ Link n q honest Issued S e x) → (x < R.first) ⊎ ((x ≤ R.stable) ⊎ Link n q honest Issued R e x)
          go (inl u) = inl (omega (arith, st.first))
          go (inr (inl u)) = inr (inl (omega (arith, st.stable)))
          go (inr (inr u)) = inr (inr (link_same S R e x st.epoch (omega (arith, st.stable)) (λ f. inr (forth x f)) u))

      crossed : (e x : ℕ) (d₁ : DigestValue) (e' : ℕ) (d' : DigestValue) → Has (commit_by self S.epoch s d ∷ issued) (commit_by self e x d₁) → Has (commit_by self S.epoch s d ∷ issued) (prepare_by self e' x d')
          → e < e' → Crossed n q honest Issued e x e' d'
      crossed e x d₁ e' d' (inl h) k l = absurd (omega (arith, epoch_of h, (inv.prepare_old e' x d' (prepare_was e' x d' k)).0))
      crossed e x d₁ e' d' (inr h) k l = inv.crossed e x d₁ e' d' h (prepare_was e' x d' k) l

  -- a higher number becomes stable
  pub settles_inv : (S R : Sketch) (issued : List Statement) → Settles S R → ((s : ℕ) → is_filled R s → s ≤ R.stable + 32) → Inv n q self honest Issued S issued → Inv n q self honest Issued R issued
  settles_inv S R issued st near inv =
      record {
        begun = omega (arith, st.epoch, inv.begun);
        filled_window = λ s h. (above s h, near s h);
        prepare_old = λ e s d h. old_same S R st.epoch st.changing e (inv.prepare_old e s d h);
        commit_old = λ e s d h. let w = inv.commit_old e s d h in (w.0, old_same S R st.epoch st.changing e w.1, omega (arith, st.stable, w.2));
        commit_prepared = inv.commit_prepared;
        prepare_here = λ e s d h k. place s (inv.prepare_here e s d h (k ∙ st.epoch));
        filled_prepared = λ s d c f. subst (λ (y : ℕ). Has issued (prepare_by self y s d)) (sym st.epoch) (inv.filled_prepared s d (sym st.changing ∙ c) (sym (st.filled s (above s (is_some_lem (R.filled s) d f))) ∙ f));
        one_prepare = inv.one_prepare;
        commit_cert = λ e s d h. cert e s (cases_lt R.stable s) (inv.commit_cert e s d h);
        stable_old = λ t m h. omega (arith, st.epoch, inv.stable_old t m h);
        held_old = λ t s he d h. omega (arith, st.epoch, inv.held_old t s he d h);
        kept = inv.kept;
        first_last = λ l h. omega (arith, st.first, inv.first_last l (sym st.last ∙ h));
        filled_last = λ l s h f. inv.filled_last l s (sym st.last ∙ h) (subst (λ (z : Option DigestValue). is_some z ≡ true) (st.filled s (above s f)) f);
        gap = λ c e s d h l. gap e s (inv.gap (sym st.changing ∙ c) e s d h (omega (arith, st.epoch)));
        crossed = inv.crossed;
      }
    where
      above : (s : ℕ) → is_filled R s → R.stable < s
      above s h = go (cases_lt R.stable s)
        where
          go : (R.stable < s) ⊎ (s ≤ R.stable) → R.stable < s
          go (inl u) = u
          go (inr u) = absurd (none_some (R.filled s) (st.gone s u) h)

      forth : (s : ℕ) → is_filled S s → (s ≤ R.stable) ⊎ is_filled R s
      forth s h = go (cases_lt R.stable s)
        where
          go : (R.stable < s) ⊎ (s ≤ R.stable) → (s ≤ R.stable) ⊎ is_filled R s
          go (inl u) = inr (subst (λ (z : Option DigestValue). is_some z ≡ true) (sym (st.filled s u)) h)
          go (inr u) = inl u

      place : (s : ℕ) → (s ≤ S.stable) ⊎ is_filled S s → (s ≤ R.stable) ⊎ is_filled R s
      place s (inl u) = inl (omega (arith, st.stable))
      place s (inr u) = forth s u

      cert : (e s : ℕ) → (R.stable < s) ⊎ (s ≤ R.stable) → (s ≤ S.stable) ⊎ (e ≤ S.cert s) → (s ≤ R.stable) ⊎ (e ≤ R.cert s)
      cert e s (inr k) u = inl k
      cert e s (inl k) (inl u) = inl (omega (arith, st.stable))
      cert e s (inl k) (inr u) = inr (omega (arith, st.cert s k))

      gap : (e s : ℕ) → (s < S.first) ⊎ ((s ≤ S.stable) ⊎ Link n q honest Issued S e s) → (s < R.first) ⊎ ((s ≤ R.stable) ⊎ Link n q honest Issued R e s)
      gap e s (inl u) = inl (omega (arith, st.first))
      gap e s (inr (inl u)) = inr (inl (omega (arith, st.stable)))
      gap e s (inr (inr u)) = inr (inr (link_same S R e s st.epoch st.stable (forth s) u))

  -- the epoch is given up
  pub gives_up_inv : (S R : Sketch) (before after : List Statement) → GivesUp self S R before after → Inv n q self honest Issued S before → Inv n q self honest Issued R after
  gives_up_inv S R before after st inv =
      record {
        begun = omega (arith, st.epoch);
        filled_window = λ s h. let w = inv.filled_window s (back s h) in (omega (arith, st.stable, w.0), omega (arith, st.stable, w.1));
        prepare_old = λ e s d h. older e (inv.prepare_old e s d (prepare_was e s d h)).0;
        commit_old = λ e s d h. let w = inv.commit_old e s d (commit_was e s d h) in (w.0, older e w.1.0, omega (arith, st.stable, w.2));
        commit_prepared = λ e s d h. st.more _ (inv.commit_prepared e s d (commit_was e s d h));
        prepare_here = λ e s d h k. absurd (omega (arith, st.epoch, (inv.prepare_old e s d (prepare_was e s d h)).0));
        filled_prepared = λ s d c f. absurd (both_ways R.changing c st.changing);
        one_prepare = λ e s d d' h k. inv.one_prepare e s d d' (prepare_was e s d h) (prepare_was e s d' k);
        commit_cert = λ e s d h. cert e s (inv.commit_cert e s d (commit_was e s d h));
        stable_old = λ t m h. stable_old t m (stable_view t m (st.only _ h));
        held_old = λ t s he d h. held_old t s he d (held_view t s he d (st.only _ h));
        kept = λ e s d t m h k l. kept e s d t m (commit_was e s d h) (stable_view t m (st.only _ k)) l;
        first_last = λ l h. omega (arith, st.first, inv.first_last l (sym st.last ∙ h));
        filled_last = λ l s h f. inv.filled_last l s (sym st.last ∙ h) (back s f);
        gap = λ c. absurd (both_ways R.changing c st.changing);
        crossed = λ e s d e' d' h k l. inv.crossed e s d e' d' (commit_was e s d h) (prepare_was e' s d' k) l;
      }
    where
      was : (a : Statement) → (a.kind ≡ Stable → ⊥) → (a.kind ≡ Held → ⊥) → Has after a → Has before a
      was a stable held h = go (st.only a h)
        where
          go : Has before a ⊎ Told self S a → Has before a
          go (inl w) = w
          go (inr (inl w)) = absurd (stable (kind_of w))
          go (inr (inr w)) = absurd (held (kind_of w.4))

      prepare_was : (e s : ℕ) (d : DigestValue) → Has after (prepare_by self e s d) → Has before (prepare_by self e s d)
      prepare_was e s d h = was _ (λ z. kinds_apart z refl) (λ z. kinds_apart z refl) h

      commit_was : (e s : ℕ) (d : DigestValue) → Has after (commit_by self e s d) → Has before (commit_by self e s d)
      commit_was e s d h = was _ (λ z. kinds_apart z refl) (λ z. kinds_apart z refl) h

      stable_view : (t m : ℕ)
          → Has before (stable_by self t m) ⊎ Told self S (stable_by self t m)
          → Has before (stable_by self t m) ⊎ ((t ≡ S.epoch + 1) × (m ≡ S.stable))
      stable_view t m (inl w) = inl w
      stable_view t m (inr (inl w)) = inr (epoch_of w, number_of w)
      stable_view t m (inr (inr w)) = absurd (kinds_apart (kind_of w.4) refl)

      held_view : (t s he : ℕ) (d : DigestValue)
          → Has before (held_by self t s he d) ⊎ Told self S (held_by self t s he d)
          → Has before (held_by self t s he d) ⊎ ((t ≡ S.epoch + 1) × (he ≡ S.cert s))
      held_view t s he d (inl w) = inl w
      held_view t s he d (inr (inl w)) = absurd (kinds_apart (kind_of w) refl)
      held_view t s he d (inr (inr w)) = inr (epoch_of w.4, held_of w.4 ∙ ap (λ (z : ℕ). S.cert z) (sym (number_of w.4)))

      back : (s : ℕ) → is_filled R s → is_filled S s
      back s h = subst (λ (z : Option DigestValue). is_some z ≡ true) (st.filled s) h

      older : (e : ℕ) → e ≤ S.epoch → Old R e
      older e u = (omega (arith, st.epoch), λ _. omega (arith, st.epoch))

      cert : (e s : ℕ) → (s ≤ S.stable) ⊎ (e ≤ S.cert s) → (s ≤ R.stable) ⊎ (e ≤ R.cert s)
      cert e s (inl u) = inl (omega (arith, st.stable))
      cert e s (inr u) = inr (omega (arith, st.cert s))

      stable_old : (t m : ℕ) → Has before (stable_by self t m) ⊎ ((t ≡ S.epoch + 1) × (m ≡ S.stable)) → t ≤ R.epoch
      stable_old t m (inl w) = omega (arith, st.epoch, inv.stable_old t m w)
      stable_old t m (inr w) = omega (arith, st.epoch, w.0)

      held_old : (t s he : ℕ) (d : DigestValue) → Has before (held_by self t s he d) ⊎ ((t ≡ S.epoch + 1) × (he ≡ S.cert s)) → t ≤ R.epoch
      held_old t s he d (inl w) = omega (arith, st.epoch, inv.held_old t s he d w)
      held_old t s he d (inr w) = omega (arith, st.epoch, w.0)

      kept : (e s : ℕ) (d : DigestValue) (t m : ℕ) → Has before (commit_by self e s d) → Has before (stable_by self t m) ⊎ ((t ≡ S.epoch + 1) × (m ≡ S.stable)) → e < t
          → (s ≤ m) ⊎ ((s ≤ m + 32) × ((he : ℕ) (d' : DigestValue) → Has after (held_by self t s he d') → e ≤ he))
      kept e s d t m h (inl k) l = right (λ w. (w.0, λ he d' u. go w.1 he d' (held_view t s he d' (st.only _ u)))) (inv.kept e s d t m h k l)
        where
          go : ((he : ℕ) (d' : DigestValue) → Has before (held_by self t s he d') → e ≤ he) → (he : ℕ) (d' : DigestValue) → Has before (held_by self t s he d') ⊎ ((t ≡ S.epoch + 1) × (he ≡ S.cert s)) → e ≤ he
          go v he d' (inl w) = v he d' w
          go v he d' (inr w) = absurd (omega (arith, w.0, inv.stable_old t m k))
      kept e s d t m h (inr k) l = now (inv.commit_cert e s d h)
        where
          go : e ≤ S.cert s → (he : ℕ) (d' : DigestValue) → Has before (held_by self t s he d') ⊎ ((t ≡ S.epoch + 1) × (he ≡ S.cert s)) → e ≤ he
          go v he d' (inl w) = absurd (omega (arith, k.0, inv.held_old t s he d' w))
          go v he d' (inr w) = omega (arith, w.1)

          now : (s ≤ S.stable) ⊎ (e ≤ S.cert s) → (s ≤ m) ⊎ ((s ≤ m + 32) × ((he : ℕ) (d' : DigestValue) → Has after (held_by self t s he d') → e ≤ he))
          now (inl u) = inl (omega (arith, k.1))
          now (inr u) = inr (omega (arith, k.1, (inv.commit_old e s d h).2), λ he d' z. go u he d' (held_view t s he d' (st.only _ z)))

  -- an epoch is begun by a dossier
  pub enters_inv : (x : Seen n q honest Issued) (S R : Sketch) (before after : List Statement) → Enters n q self honest Issued x S R before after
      → Inv n q self honest Issued S before → Inv n q self honest Issued R after
  enters_inv x S R before after st inv =
      record {
        begun = omega (arith, st.epoch, x.begun);
        filled_window = λ s h. let f = some_of (R.filled s) h in let w = st.filled s f.0 f.1 in (w.0, w.1);
        prepare_old = λ e s d h. prepare_old e s d (st.only _ h);
        commit_old = λ e s d h. let w = inv.commit_old e s d (commit_was e s d h) in (w.0, now e (older e w.1), omega (arith, st.stable.0, w.2));
        commit_prepared = λ e s d h. st.more _ (inv.commit_prepared e s d (commit_was e s d h));
        prepare_here = λ e s d h k. prepare_here e s d (st.only _ h) k;
        filled_prepared = λ s d c f. subst (λ (y : ℕ). Has after (prepare_by self y s d)) (sym st.epoch) (st.each s d f);
        one_prepare = λ e s d d' h k. one_prepare e s d d' (st.only _ h) (st.only _ k);
        commit_cert = λ e s d h. cert e s (cases_lt R.stable s) (inv.commit_cert e s d (commit_was e s d h));
        stable_old = λ t m h. omega (arith, st.epoch, st.fresh.0, inv.stable_old t m (was _ (λ z. kinds_apart z refl) h));
        held_old = λ t s he d h. omega (arith, st.epoch, st.fresh.0, inv.held_old t s he d (was _ (λ z. kinds_apart z refl) h));
        kept = λ e s d t m h k l. right (λ w. (w.0, λ he d' u. w.1 he d' (was _ (λ z. kinds_apart z refl) u))) (inv.kept e s d t m (commit_was e s d h) (was _ (λ z. kinds_apart z refl) k) l);
        first_last = λ l h. omega (arith, st.first, ends l h);
        filled_last = λ l s h f. omega (arith, ends l h, upto s f, x.sound.top_near);
        gap = λ _ e s d h l. gap e s d (commit_was e s d h) (cases_lt x.o.base s) (cases_lt R.stable s);
        crossed = λ e s d e' d' h k l. crossed e s d e' d' (commit_was e s d h) (st.only _ k) l;
      }
    where
      was : (a : Statement) → (a.kind ≡ Prepare → ⊥) → Has after a → Has before a
      was a other h = go (st.only a h)
        where
          go : Has before a ⊎ Filled self x.target R a → Has before a
          go (inl w) = w
          go (inr w) = absurd (other (kind_of w.3))

      commit_was : (e s : ℕ) (d : DigestValue) → Has after (commit_by self e s d) → Has before (commit_by self e s d)
      commit_was e s d h = was _ (λ z. kinds_apart z refl) h

      older : (e : ℕ) → Old S e → e < x.target
      older e o = go S.changing refl
        where
          go : (b : Bool) → S.changing ≡ b → e < x.target
          go true k = omega (arith, o.1 k, st.fresh.0)
          go false k = omega (arith, o.0, st.fresh.1 k)

      now : (e : ℕ) → e < x.target → Old R e
      now e l = (omega (arith, st.epoch), λ k. absurd (both_ways R.changing st.changing k))

      ends : (l : ℕ) → R.last ≡ Some l → x.o.base + 32 ≡ l
      ends l h = some_is (x.o.base + 32) l (sym st.last ∙ h)

      upto : (s : ℕ) → is_filled R s → s ≤ top x.o
      upto s h = let f = some_of (R.filled s) h in (st.filled s f.0 f.1).2

      prepare_old : (e s : ℕ) (d : DigestValue) → Has before (prepare_by self e s d) ⊎ Filled self x.target R (prepare_by self e s d) → Old R e
      prepare_old e s d (inl w) = now e (older e (inv.prepare_old e s d w))
      prepare_old e s d (inr w) = (omega (arith, st.epoch, epoch_of w.3), λ k. absurd (both_ways R.changing st.changing k))

      -- what is prepared now is filled so
      filled_so : (e s : ℕ) (d : DigestValue) (s' : ℕ) (d' : DigestValue) → R.filled s' ≡ Some d' → prepare_by self e s d ≡ prepare_by self x.target s' d' → R.filled s ≡ Some d
      filled_so e s d s' d' f h = ap (λ (z : ℕ). R.filled z) (number_of h) ∙ (f ∙ ap (λ (z : DigestValue). Some z) (sym (value_is h)))

      prepare_here : (e s : ℕ) (d : DigestValue) → Has before (prepare_by self e s d) ⊎ Filled self x.target R (prepare_by self e s d)
          → e ≡ R.epoch → (s ≤ R.stable) ⊎ is_filled R s
      prepare_here e s d (inl w) k = absurd (omega (arith, st.epoch, older e (inv.prepare_old e s d w)))
      prepare_here e s d (inr w) k = inr (is_some_lem (R.filled s) d (filled_so e s d w.0 w.1 w.2 w.3))

      one_prepare : (e s : ℕ) (d₁ d₂ : DigestValue)
          → Has before (prepare_by self e s d₁) ⊎ Filled self x.target R (prepare_by self e s d₁)
          → Has before (prepare_by self e s d₂) ⊎ Filled self x.target R (prepare_by self e s d₂)
          → d₁ ≡ d₂
      one_prepare e s d₁ d₂ (inl h) (inl k) = inv.one_prepare e s d₁ d₂ h k
      one_prepare e s d₁ d₂ (inl h) (inr k) = absurd (omega (arith, epoch_of k.3, older e (inv.prepare_old e s d₁ h)))
      one_prepare e s d₁ d₂ (inr h) (inl k) = absurd (omega (arith, epoch_of h.3, older e (inv.prepare_old e s d₂ k)))
      one_prepare e s d₁ d₂ (inr h) (inr k) = some_is d₁ d₂ (sym (filled_so e s d₁ h.0 h.1 h.2 h.3) ∙ filled_so e s d₂ k.0 k.1 k.2 k.3)

      cert : (e s : ℕ) → (R.stable < s) ⊎ (s ≤ R.stable) → (s ≤ S.stable) ⊎ (e ≤ S.cert s) → (s ≤ R.stable) ⊎ (e ≤ R.cert s)
      cert e s (inr k) u = inl k
      cert e s (inl k) (inl u) = inl (omega (arith, st.stable.0))
      cert e s (inl k) (inr u) = inr (omega (arith, st.cert s k))

      gap : (e s : ℕ) (d : DigestValue) → Has before (commit_by self e s d) → (x.o.base < s) ⊎ (s ≤ x.o.base) → (R.stable < s) ⊎ (s ≤ R.stable)
          → (s < R.first) ⊎ ((s ≤ R.stable) ⊎ Link n q honest Issued R e s)
      gap e s d h (inr l) u = inl (omega (arith, st.first))
      gap e s d h (inl l) (inr u) = inr (inl u)
      gap e s d h (inl l) (inl u) =
          inr (inr (record {
            seen = x;
            after = older e (inv.commit_old e s d h).1;
            upto = omega (arith, st.epoch);
            above = l;
            filled = λ t. (sym st.epoch, inr (is_some_lem (R.filled s) (digest_of x.o s) (st.chosen s u t)));
          }))

      crossed : (e s : ℕ) (d : DigestValue) (e' : ℕ) (d' : DigestValue) → Has before (commit_by self e s d)
          → Has before (prepare_by self e' s d') ⊎ Filled self x.target R (prepare_by self e' s d')
          → e < e' → Crossed n q honest Issued e s e' d'
      crossed e s d e' d' h (inl k) l = inv.crossed e s d e' d' h k l
      crossed e s d e' d' h (inr k) l =
          let w = st.filled s d' (filled_so e' s d' k.0 k.1 k.2 k.3) in
          record {
            seen = x;
            after = older e (inv.commit_old e s d h).1;
            upto = omega (arith, epoch_of k.3);
            above = omega (arith, w.0, st.stable.1);
            chosen = λ _. (sym (epoch_of k.3), w.3);
          }

  -- the next epoch begins after the last number
  pub turns_inv : (S R : Sketch) (issued : List Statement) → Turns S R → Inv n q self honest Issued S issued → Inv n q self honest Issued R issued
  turns_inv S R issued st inv =
      record {
        begun = omega (arith, st.epoch);
        filled_window = λ s h. absurd (none_some (R.filled s) (st.filled s) h);
        prepare_old = λ e s d h. later e (inv.prepare_old e s d h).0;
        commit_old = λ e s d h. let w = inv.commit_old e s d h in (w.0, later e w.1.0, omega (arith, st.stable, w.2));
        commit_prepared = inv.commit_prepared;
        prepare_here = λ e s d h k. absurd (omega (arith, st.epoch, (inv.prepare_old e s d h).0));
        filled_prepared = λ s d c f. absurd (none_some (R.filled s) (st.filled s) (is_some_lem (R.filled s) d f));
        one_prepare = inv.one_prepare;
        commit_cert = λ e s d h. cert e s (inv.commit_cert e s d h);
        stable_old = λ t m h. omega (arith, st.epoch, inv.stable_old t m h);
        held_old = λ t s he d h. omega (arith, st.epoch, inv.held_old t s he d h);
        kept = inv.kept;
        first_last = λ m h. omega (arith, st.first, st.last m h);
        filled_last = λ m s h f. absurd (none_some (R.filled s) (st.filled s) f);
        gap = λ _ e s d h k. gap e s d h (cases_lt st.l s) (cases_lt S.stable s) (cases_eq e S.epoch);
        crossed = inv.crossed;
      }
    where
      later : (e : ℕ) → e ≤ S.epoch → Old R e
      later e u = (omega (arith, st.epoch), λ k. absurd (both_ways R.changing st.changing k))

      cert : (e s : ℕ) → (s ≤ S.stable) ⊎ (e ≤ S.cert s) → (s ≤ R.stable) ⊎ (e ≤ R.cert s)
      cert e s (inl u) = inl (omega (arith, st.stable))
      cert e s (inr u) = inr (omega (arith, st.cert s))

      -- what was stable or filled is not above the last number and the stable one
      out : (s : ℕ) → st.l < s → S.stable < s → (s ≤ S.stable) ⊎ is_filled S s → ⊥
      out s u v (inl z) = omega arith
      out s u v (inr z) = omega (arith, u, inv.filled_last st.l s st.ended z)

      gap : (e s : ℕ) (d : DigestValue) → Has issued (commit_by self e s d) → (st.l < s) ⊎ (s ≤ st.l) → (S.stable < s) ⊎ (s ≤ S.stable) → (e ≡ S.epoch) ⊎ (e ≡ S.epoch → ⊥)
          → (s < R.first) ⊎ ((s ≤ R.stable) ⊎ Link n q honest Issued R e s)
      gap e s d h (inr u) v w = inl (omega (arith, st.first))
      gap e s d h (inl u) (inr v) w = inr (inl (omega (arith, st.stable)))
      gap e s d h (inl u) (inl v) (inl w) = absurd (out s u v (inv.prepare_here e s d (inv.commit_prepared e s d h) w))
      gap e s d h (inl u) (inl v) (inr w) = go (inv.gap st.steady e s d h (omega (arith, (inv.commit_old e s d h).1.0)))
        where
          go : (s < S.first) ⊎ ((s ≤ S.stable) ⊎ Link n q honest Issued S e s) → (s < R.first) ⊎ ((s ≤ R.stable) ⊎ Link n q honest Issued R e s)
          go (inl z) = absurd (omega (arith, u, inv.first_last st.l st.ended))
          go (inr (inl z)) = absurd (omega (arith, v))
          go (inr (inr z)) = inr (inr (record { seen = z.seen; after = z.after; upto = omega (arith, st.epoch, z.upto); above = z.above; filled = λ t. absurd (out s u v (z.filled t).1) }))

  -- a new controller has issued nothing
  pub start_inv : (S : Sketch) → 1 ≤ S.epoch → S.last ≡ None → ((s : ℕ) → S.filled s ≡ None) → Inv n q self honest Issued S []
  start_inv S begun open-ended empty =
      record {
        begun = begun;
        filled_window = λ s h. absurd (none_some (S.filled s) (empty s) h);
        prepare_old = λ e s d h. absurd h;
        commit_old = λ e s d h. absurd h;
        commit_prepared = λ e s d h. absurd h;
        prepare_here = λ e s d h. absurd h;
        filled_prepared = λ s d c f. absurd (none_some (S.filled s) (empty s) (is_some_lem (S.filled s) d f));
        one_prepare = λ e s d d' h. absurd h;
        commit_cert = λ e s d h. absurd h;
        stable_old = λ t m h. absurd h;
        held_old = λ t s he d h. absurd h;
        kept = λ e s d t m h. absurd h;
        first_last = λ l h. absurd (none_some S.last open-ended (is_some_lem S.last l h));
        filled_last = λ l s h f. absurd (none_some (S.filled s) (empty s) f);
        gap = λ c e s d h. absurd h;
        crossed = λ e s d e' d' h. absurd h;
      }
