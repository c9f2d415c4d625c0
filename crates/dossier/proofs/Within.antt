-- No place and no index of a fault passes the end of the list.
use Rattle.std.proofs.Common.{◌≡◌, ℕ, zero, suc, ◌+◌, ◌≤◌, Bool, eqb, ltb, List, [], ◌∷◌, ◌++◌, length, take, drop, Some, None, Ok, Err, Option, Result, refl, subst, arith, length-drop}
use Rattle.std.proofs.lemmas.Bool.{cond_both}
use Rattle.wire.specs.declared.records.Statement.{Statement}
use Rattle.wire.specs.declared.records.Sealed.{Sealed}
use Rattle.seal.specs.Records.{signer_of}
use Rattle.group.specs.Group.{grouped, exactly}
use Rattle.group.proofs.Groups.{stood, fell}
use Rattle.dossier.specs.declared.parts.Terms.{Terms}
use Rattle.dossier.specs.declared.parts.Claim.{Claim}
use Rattle.dossier.specs.declared.parts.Opened.{Opened}
use Rattle.dossier.specs.declared.tally.Tally.{Tally}
use Rattle.dossier.specs.declared.tally.Found.{Found}
use Rattle.dossier.specs.Walk.{onward, or_fault, mark_at, asked, last_asked, blank, stable_fits, quorum_from, held_one, helds_from, helds, found, numbers, checkpoints, largest, walked}
use Rattle.dossier.specs.Laws.{RefusedWithin}
use Rattle.dossier.proofs.Shown.{one_passed}
use Rattle.wire.specs.declared.kinds.Kind.TheVariants.{Prepare, Checkpoint}

-- the place after a part, or the index of its fault
abbrev Within : {A : Type 0} → ℕ → (A → ℕ) → Result A ℕ → Type 0
Within len next (Ok a) = next a ≤ len
Within len next (Err i) = i ≤ len

within_onward : {A B : Type 0} (len : ℕ) (next : A → ℕ) (after : B → ℕ) (x : Result A ℕ) (f : A → Result B ℕ) → Within len next x → ((a : A) → next a ≤ len → Within len after (f a)) → Within len after (onward x f)
within_onward len next after (Ok a) f h k = k a h
within_onward len next after (Err i) f h k = h

module _ (accepts : Statement → ℕ → Bool) (terms : Terms) (rs : List Sealed) where
  quorum_within : (allows : Sealed → Bool) (place : ℕ) → place ≤ length rs → Within (length rs) (λ p. p) (quorum_from accepts terms rs allows place)
  quorum_within allows place h = go (grouped signer_of allows terms.threshold.n terms.threshold.q place 0 (drop place rs)) refl
    where
      go : (r : Result ℕ ℕ) → grouped signer_of allows terms.threshold.n terms.threshold.q place 0 (drop place rs) ≡ r → Within (length rs) (λ p. p) r
      go (Ok p) e = let s = stood signer_of allows terms.threshold.n terms.threshold.q place 0 (drop place rs) p e in omega (arith, s.after, s.enough, length-drop place rs)
      go (Err i) e = let s = fell signer_of allows terms.threshold.n terms.threshold.q place 0 (drop place rs) i e in omega (arith, s.within, length-drop place rs)

  helds_within : (s last j : ℕ) (c : Tally) (place : ℕ) (ts : List Sealed) → place ≤ length rs → Within (length rs) (λ (g : Found Tally). g.next) (helds_from accepts terms rs s last j c place ts)
  helds_within s last j c place [] h = h
  helds_within s last j c place (t ∷ ts) h =
      cond_both {A = Result (Found Tally) ℕ} (asked s t) _ _ (Within (length rs) (λ (g : Found Tally). g.next))
      (λ _. go (held_one accepts terms rs s t.statement.signer (eqb j last) c place) refl (λ c. helds_within s last (j + 1) c (place + 1) ts))
      (λ _. helds_within s last (j + 1) c place ts h)
    where
      go : (o : Option Tally) → held_one accepts terms rs s t.statement.signer (eqb j last) c place ≡ o
          → ((c : Tally) → place + 1 ≤ length rs → Within (length rs) (λ (g : Found Tally). g.next) (helds_from accepts terms rs s last (j + 1) c (place + 1) ts))
          → Within (length rs) (λ (g : Found Tally). g.next) (or_fault o place (λ c'. helds_from accepts terms rs s last (j + 1) c' (place + 1) ts))
      go (Some c') e ih = ih c' (omega (arith, (one_passed accepts terms rs s t.statement.signer (eqb j last) c c' place e).inside))
      go None e ih = h

  found_within : (ts : List Sealed) (s place : ℕ) → place ≤ length rs → Within (length rs) (λ (f : Found Claim). f.next) (found accepts terms rs ts s place)
  found_within ts s place h =
      within_onward (length rs) (λ (g : Found Tally). g.next) (λ (f : Found Claim). f.next) (helds accepts terms rs s place ts) _ (helds_within s (last_asked s 0 0 ts) 0 blank place ts h)
      (λ g k. cond_both {A = Result (Found Claim) ℕ} (eqb g.value.claim.epoch 0) _ _ (Within (length rs) (λ (f : Found Claim). f.next))
      (λ _. k)
      (λ _. within_onward (length rs) (λ p. p) (λ (f : Found Claim). f.next) (quorum_from accepts terms rs (exactly accepts Prepare g.value.claim.epoch s g.value.claim.digest) g.next) _ (quorum_within _ g.next k) (λ p l. l)))

  numbers_within : (ts : List Sealed) (k s place : ℕ) (cs : List Claim) → place ≤ length rs → Within (length rs) (λ (w : Found (List Claim)). w.next) (numbers accepts terms rs ts k s place cs)
  unfolding numbers
  numbers_within ts zero s place cs h = h
  numbers_within ts (suc k) s place cs h =
      within_onward (length rs) (λ (f : Found Claim). f.next) (λ (w : Found (List Claim)). w.next) (found accepts terms rs ts s place) _ (found_within ts s place h) (λ f l. numbers_within ts k (s + 1) f.next (cs ++ f.value ∷ []) l)

  checkpoints_within : (base place : ℕ) → place ≤ length rs → Within (length rs) (λ p. p) (checkpoints accepts terms rs base place)
  checkpoints_within base place h =
      cond_both {A = Result ℕ ℕ} (eqb base 0) _ _ (Within (length rs) (λ p. p)) (λ _. h) (λ _. quorum_within (exactly accepts Checkpoint 0 base (mark_at rs base place)) place h)

  all_within : Within (length rs) (λ (o : Opened). 0) (walked accepts terms rs)
  all_within =
      within_onward (length rs) (λ p. p) (λ (o : Opened). 0) (quorum_from accepts terms rs (stable_fits accepts terms) 0) _ (quorum_within (stable_fits accepts terms) 0 (omega arith))
      (λ p h. within_onward (length rs) (λ p. p) (λ (o : Opened). 0) (checkpoints accepts terms rs (largest (take terms.threshold.q rs)) p) _ (checkpoints_within (largest (take terms.threshold.q rs)) p h)
      (λ start k. within_onward (length rs) (λ (w : Found (List Claim)). w.next) (λ (o : Opened). 0) (numbers accepts terms rs (take terms.threshold.q rs) 32 (largest (take terms.threshold.q rs) + 1) start []) _ (numbers_within (take terms.threshold.q rs) 32 (largest (take terms.threshold.q rs) + 1) start [] k)
      (λ w l. cond_both {A = Result Opened ℕ} (ltb w.next (length rs)) _ _ (Within (length rs) (λ (o : Opened). 0)) (λ _. l) (λ _. omega arith))))

pub walked_within : RefusedWithin
walked_within accepts terms rs i e = subst (Within (length rs) (λ (o : Opened). 0)) e (all_within accepts terms rs)
