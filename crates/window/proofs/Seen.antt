-- What is seen before and after a mark.
use Rattle.std.proofs.Common.{◌≡◌, ℕ, zero, suc, ◌+◌, ◌-◌, ◌/◌, ◌%◌, ◌^◌, ◌<◌, ◌≤◌, true, false, ◌||◌, eqb, leb, ◌⊎◌, sym, refl, ap, ◌∙◌, inl, inr, arith, shr-shr}
use lib.Bits.{bit_or}
use Rattle.std.proofs.lemmas.Nat.Bits.{bit_at_or, bit_at-pow_same, bit_at-pow_other, bit_at-lt, bit_at-zero}
use Rattle.std.proofs.lemmas.Bool.{cases_lt, cases_eq, cases_order, eq-eqb, ne_eqb, eqb-true, le-leb, lt-leb, or_left, or_right, or_from, cond_both, cond-true, cond-false}
use Rattle.window.specs.declared.span.Span.{Span}
use Rattle.window.specs.Spans.{bit, free, seen, put, up, rise}
use Rattle.window.specs.Marked.{after, fresh, free_range}
use Rattle.window.specs.Laws.{MarkAdds, FreeUnseen, ElseUnchanged}
use Rattle.window.proofs.Same.{same_window}

bit_set : (m k : ℕ) → bit_or m (2 ^ k) / 2 ^ k % 2 ≡ 1
bit_set m k = bit_at_or m (2 ^ k) k ∙ omega (arith, bit_at-pow_same k, bit_at-lt m k)

bit_kept : (m j k : ℕ) → (j ≡ k → ⊥) → bit_or m (2 ^ j) / 2 ^ k % 2 ≡ m / 2 ^ k % 2
bit_kept m j k ne = bit_at_or m (2 ^ j) k ∙ omega (arith, bit_at-pow_other j k (λ e. ne (sym e)))

pub seen_put : (s : Span) (t u : ℕ) → s.base < t → seen (put s t) u ≡ (eqb u t || seen s u)
seen_put s t u above = go (cases_lt s.base u) (cases_eq u t)
  where
    go : (s.base < u) ⊎ (u ≤ s.base) → (u ≡ t) ⊎ (u ≡ t → ⊥) → seen (put s t) u ≡ (eqb u t || seen s u)
    go (inr low) _ =
        let is : leb u s.base ≡ true = le-leb u s.base low in
        or_left (leb u s.base) (eqb (bit (put s t) u) 1) is ∙ sym (or_right (eqb u t) (seen s u) (or_left (leb u s.base) (eqb (bit s u) 1) is))
    go (inl high) (inl same) =
        let own : bit (put s t) u ≡ 1 = ap (λ n. bit_or s.marks (2 ^ (t - s.base - 1)) / 2 ^ (n - s.base - 1) % 2) same ∙ bit_set s.marks (t - s.base - 1) in
        or_right (leb u s.base) (eqb (bit (put s t) u) 1) (eq-eqb (bit (put s t) u) 1 own) ∙ sym (or_left (eqb u t) (seen s u) (eq-eqb u t same))
    go (inl high) (inr other) =
        let apart : (t - s.base - 1 ≡ u - s.base - 1) → ⊥ = λ e. other (omega arith) in
        ap (λ n. leb u s.base || eqb n 1) (bit_kept s.marks (t - s.base - 1) (u - s.base - 1) apart) ∙ sym (ap (λ b. b || seen s u) (ne_eqb u t other))

pub seen_up : (s : Span) (u : ℕ) → s.marks % 2 ≡ 1 → seen (up s) u ≡ seen s u
seen_up s u odd = go (cases_order u (s.base + 1))
  where
    go : (u ≡ s.base + 1) ⊎ ((u < s.base + 1) ⊎ (s.base + 1 < u)) → seen (up s) u ≡ seen s u
    go (inl at) =
        let none : u - s.base - 1 ≡ 0 = omega arith in
        let own : bit s u ≡ 1 = ap (λ n. s.marks / 2 ^ n % 2) none ∙ omega arith in
        or_left (leb u (s.base + 1)) (eqb (bit (up s) u) 1) (le-leb u (s.base + 1) (omega arith)) ∙ sym (or_right (leb u s.base) (eqb (bit s u) 1) (eq-eqb (bit s u) 1 own))
    go (inr (inl low)) =
        or_left (leb u (s.base + 1)) (eqb (bit (up s) u) 1) (le-leb u (s.base + 1) (omega arith)) ∙ sym (or_left (leb u s.base) (eqb (bit s u) 1) (le-leb u s.base (omega arith)))
    go (inr (inr high)) =
        let next : 1 + (u - (s.base + 1) - 1) ≡ u - s.base - 1 = omega arith in
        let same : bit (up s) u ≡ bit s u = ap (λ n. n % 2) (shr-shr s.marks 1 (u - (s.base + 1) - 1)) ∙ ap (λ n. s.marks / 2 ^ n % 2) next in
        ap (λ b. b || eqb (bit (up s) u) 1) (lt-leb u (s.base + 1) high) ∙ ap (λ n. eqb n 1) same ∙ sym (ap (λ b. b || eqb (bit s u) 1) (lt-leb u s.base (omega arith)))

pub seen_rise : (n : ℕ) (s : Span) (u : ℕ) → seen (rise n s) u ≡ seen s u
unfolding rise
seen_rise zero s u = refl
seen_rise (suc n) s u =
    cond_both (eqb (s.marks % 2) 1) _ _ (λ (r : Span). seen r u ≡ seen s u)
    (λ e. seen_rise n (up s) u ∙ seen_up s u (eqb-true (s.marks % 2) 1 e)) (λ _. refl)

pub mark_adds : MarkAdds
mark_adds w t u e =
    let s = w.span in
    ap (λ (r : Span). seen r u) (cond-true (free s t) (rise 64 (put s t)) s e) ∙ seen_rise 64 (put s t) u ∙ seen_put s t u (free_range s t e).0

pub free_unseen : FreeUnseen
free_unseen w t e =
    let s = w.span in
    let r = free_range s t e in
    or_from (leb t s.base) (eqb (bit s t) 1) (lt-leb t s.base r.0) (ne_eqb (bit s t) 1 (λ h. omega (arith, r.3)))

pub else_unchanged : ElseUnchanged
else_unchanged w t e = same_window (after w t) w (cond-false (free w.span t) (rise 64 (put w.span t)) w.span e)

-- nothing is seen in a fresh window
pub fresh_unseen : (u : ℕ) → 1 ≤ u → seen fresh.span u ≡ false
fresh_unseen u h =
    or_from (leb u 0) (eqb (bit fresh.span u) 1) (lt-leb u 0 h)
    (ne_eqb (bit fresh.span u) 1 (λ e. omega (arith, bit_at-zero (u - 0 - 1), e)))
