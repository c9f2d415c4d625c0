-- Kinds and their bytes: each byte is that of its kind, a known kind is that of its byte, and kinds that are called the same are equal.
use Rattle.std.proofs.Common.{◌≡◌, ℕ, ◌+◌, ◌-◌, ◌<◌, Bool, true, false, cond, eqb, sym, refl, ap, ◌∙◌, subst, arith}
use Rattle.std.proofs.lemmas.Bool.{eqb-true, eq-eqb, ne_eqb, false≢true}
use Rattle.wire.specs.declared.kinds.Kind.{Kind}
use Rattle.wire.specs.declared.kinds.Kind.TheVariants.{Request, Proposal, Prepare, Commit, Checkpoint, Stable, Held, New, Unknown}
use Rattle.wire.specs.Kinds.{kind_of, byte_of, place_of, same_kind, unknown}
use Rattle.wire.specs.Laws.{KindsReadBack, SameKinds}

pub byte_back : (b : ℕ) → byte_of (kind_of b) ≡ b
byte_back b =
    one (eqb b 1) Request _ 1 refl (eqb-true b 1)
    (one (eqb b 2) Proposal _ 2 refl (eqb-true b 2)
    (one (eqb b 3) Prepare _ 3 refl (eqb-true b 3)
    (one (eqb b 4) Commit _ 4 refl (eqb-true b 4)
    (one (eqb b 5) Checkpoint _ 5 refl (eqb-true b 5)
    (one (eqb b 6) Stable _ 6 refl (eqb-true b 6)
    (one (eqb b 7) Held _ 7 refl (eqb-true b 7)
    (one (eqb b 8) New _ 8 refl (eqb-true b 8) refl)))))))
  where
    one : (t : Bool) (k rest : Kind) (n : ℕ) → byte_of k ≡ n → (t ≡ true → b ≡ n) → byte_of rest ≡ b → byte_of (cond t k rest) ≡ b
    one true k rest n is h e = is ∙ sym (h refl)
    one false k rest n is h e = e

pub kind_back : (k : Kind) → unknown k ≡ false → kind_of (byte_of k) ≡ k
kind_back Request h = refl
kind_back Proposal h = refl
kind_back Prepare h = refl
kind_back Commit h = refl
kind_back Checkpoint h = refl
kind_back Stable h = refl
kind_back Held h = refl
kind_back New h = refl
kind_back (Unknown b) h = absurd (let z : ◌≡◌ {A = ℕ} 0 1 = cc in omega arith)

-- the kind of a number, back
abbrev at : ℕ → Kind
at n =
    cond (eqb n 1) Request (cond (eqb n 2) Proposal (cond (eqb n 3) Prepare (cond (eqb n 4) Commit (cond (eqb n 5) Checkpoint
    (cond (eqb n 6) Stable (cond (eqb n 7) Held (cond (eqb n 8) New (Unknown (n - 9)))))))))

past : (b n : ℕ) → n < 9 → eqb (9 + b) n ≡ false
past b n h = ne_eqb (9 + b) n (λ e. omega (arith, e, h))

at_place : (k : Kind) → at (place_of k) ≡ k
at_place Request = refl
at_place Proposal = refl
at_place Prepare = refl
at_place Commit = refl
at_place Checkpoint = refl
at_place Stable = refl
at_place Held = refl
at_place New = refl
at_place (Unknown b) =
    let back : 9 + b - 9 ≡ b = omega arith in
    simp (past b 1 (omega arith), past b 2 (omega arith), past b 3 (omega arith), past b 4 (omega arith), past b 5 (omega arith), past b 6 (omega arith), past b 7 (omega arith), past b 8 (omega arith)) (ap Unknown back)

pub same_kind_is : (a b : Kind) → same_kind a b ≡ true → a ≡ b
same_kind_is a b h = sym (at_place a) ∙ (ap at (eqb-true (place_of a) (place_of b) h) ∙ at_place b)

pub same_kind_self : (a : Kind) → same_kind a a ≡ true
same_kind_self a = eq-eqb (place_of a) (place_of a) refl

pub same_kinds : SameKinds
same_kinds a b = (same_kind_is a b, λ e. subst (λ (k : Kind). same_kind a k ≡ true) e (same_kind_self a))

pub kinds_back : KindsReadBack
kinds_back = record { bytes = byte_back; kinds = kind_back }

-- kinds that are not called the same are not equal
pub kinds_apart : {a b : Kind} → a ≡ b → same_kind a b ≡ false → ⊥
kinds_apart {a} {b} e h = false≢true (sym h ∙ (ap (λ (k : Kind). same_kind a k) (sym e) ∙ same_kind_self a))

pub same_kind_not : (a b : Kind) → (a ≡ b → ⊥) → same_kind a b ≡ false
same_kind_not a b h = go (same_kind a b) refl
  where
    go : (t : Bool) → same_kind a b ≡ t → t ≡ false
    go true e = absurd (h (same_kind_is a b e))
    go false e = refl
