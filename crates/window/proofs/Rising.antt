-- The rise of a base over the lowest marks, all at once.
use Rattle.std.proofs.Common.{◌≡◌, ℕ, zero, suc, ◌+◌, ◌-◌, ◌/◌, ◌%◌, ◌^◌, ◌<◌, ◌≤◌, min, ◌⊎◌, inl, inr, sym, refl, ap, ◌∙◌, subst, pow-suc, arith, pow_mono, shr-shr, cond, nat_lt}
use native.Mathlib.Nat.{div-eq_of_lt}
use Rattle.std.specs.Int.{w64, bit_at, trailing_ones}
use Rattle.std.specs.Int.Count.{count_trailing_zeros, trailing_of_zero}
use Rattle.std.proofs.lemmas.Nat.Bits.{bit_at_lowest, bit_at-suc, bit_at_ones, bit_at-trailing_ones}
use Rattle.std.proofs.lemmas.Bool.{cases_lt, ltb-false, eq-eqb, ne_eqb, cond_both, cond-true, cond-false}
use Rattle.window.specs.declared.span.Span.{Span}
use Rattle.window.specs.Spans.{rise, up}

-- the k lowest bits are set, and the next one is not, or there are but n
pub record Lowest (n k m : ℕ) : Type 0 where
  pub within : k ≤ n
  pub set : (i : ℕ) → i < k → bit_at m i ≡ 1
  pub then : (k ≡ n) ⊎ (bit_at m k ≡ 0)

lowest_odd : (n k m : ℕ) → Lowest n (suc k) m → m % 2 ≡ 1
lowest_odd n k m h = sym (bit_at_lowest m) ∙ h.set 0 (omega arith)

lowest_half : (n k m : ℕ) → Lowest (suc n) (suc k) m → Lowest n k (m / 2)
lowest_half n k m h = record { within = omega (arith, h.within); set = λ i lt. sym (bit_at-suc m i) ∙ h.set (suc i) (omega arith); then = go h.then }
  where
    go : (suc k ≡ suc n) ⊎ (bit_at m (suc k) ≡ 0) → (k ≡ n) ⊎ (bit_at (m / 2) k ≡ 0)
    go (inl e) = inl (omega arith)
    go (inr e) = inr (sym (bit_at-suc m k) ∙ e)

pub rise_by : (n k : ℕ) (s : Span) → Lowest n k s.marks → rise n s ≡ record { base = s.base + k; marks = s.marks / 2 ^ k }
unfolding rise
rise_by zero zero s h = let b : s.base ≡ s.base + 0 = omega arith in let m : s.marks ≡ s.marks / 2 ^ 0 = omega arith in (λ i. record { base = b i; marks = m i })
rise_by zero (suc k) s h = absurd (omega (arith, h.within))
rise_by (suc n) zero s h = go h.then
  where
    go : (0 ≡ suc n) ⊎ (bit_at s.marks 0 ≡ 0) → rise (suc n) s ≡ record { base = s.base + 0; marks = s.marks / 2 ^ 0 }
    go (inl e) = absurd (omega arith)
    go (inr e) =
        let b : s.base ≡ s.base + 0 = omega arith in
        let m : s.marks ≡ s.marks / 2 ^ 0 = omega arith in
        let even : s.marks % 2 ≡ 0 = sym (bit_at_lowest s.marks) ∙ e in
        cond-false _ _ _ (ne_eqb (s.marks % 2) 1 (λ odd. omega arith)) ∙ (λ i. record { base = b i; marks = m i })
rise_by (suc n) (suc k) s h =
    let b : s.base + 1 + k ≡ s.base + suc k = omega arith in
    let next : 1 + k ≡ suc k = omega arith in
    let m : s.marks / 2 / 2 ^ k ≡ s.marks / 2 ^ suc k = shr-shr s.marks 1 k ∙ ap (λ n. s.marks / 2 ^ n) next in
    cond-true _ _ _ (eq-eqb (s.marks % 2) 1 (lowest_odd (suc n) k s.marks h)) ∙ rise_by n k (up s) (lowest_half n k s.marks h) ∙ (λ i. record { base = b i; marks = m i })

pub trailing_lowest : (m : ℕ) → m < 2 ^ 64 → Lowest 64 (trailing_ones w64 m) m
trailing_lowest m h = go (cases_lt (m + 1) (2 ^ 64))
  where
    go : (m + 1 < 2 ^ 64) ⊎ (2 ^ 64 ≤ m + 1) → Lowest 64 (trailing_ones w64 m) m
    go (inl below) = let t = bit_at-trailing_ones w64 m below in record { within = omega (arith, t.0); set = t.2; then = inr t.1 }
    go (inr all) =
        let is : m ≡ 2 ^ 64 - 1 = omega arith in
        let none : 2 ^ 64 - 1 - m ≡ 0 = omega arith in
        let long : trailing_ones w64 m ≡ 64 = ap (count_trailing_zeros 64) none ∙ trailing_of_zero 64 in
        record {
          within = omega (arith, long);
          set = λ i lt. ap (λ n. bit_at n i) is ∙ bit_at_ones 64 i (omega (arith, long, lt));
          then = inl long;
        }

-- with k lowest bits set a number is 2 ^ k - 1 at least
lowest_large : (n k m : ℕ) → Lowest n k m → 2 ^ k ≤ m + 1
lowest_large n zero m h = omega arith
lowest_large zero (suc k) m h = absurd (omega (arith, h.within))
lowest_large (suc n) (suc k) m h = omega (arith, pow-suc 2 k, lowest_odd (suc n) k m h, lowest_large n k (m / 2) (lowest_half n k m h))

pub lowest_fits : (n k m j : ℕ) → Lowest n k m → m < 2 ^ j → k ≤ j
lowest_fits n k m j h below = go (cases_lt j k)
  where
    go : (j < k) ⊎ (k ≤ j) → k ≤ j
    go (inl over) = let up : 2 ^ suc j ≤ 2 ^ k = pow_mono (omega arith) in absurd (omega (arith, up, pow-suc 2 j, lowest_large n k m h))
    go (inr h) = h

-- what the base of a span rises by, and what that makes of it
module _ (s : Span) (k : ℕ) (h : s.marks < 2 ^ min 64 (4294967295 - s.base)) (is : k ≡ trailing_ones w64 s.marks) where
  small : s.marks < 2 ^ 64
  small = let top : 2 ^ min 64 (4294967295 - s.base) ≤ 2 ^ 64 = pow_mono {i = min 64 (4294967295 - s.base)} {j = 64} (omega arith) in omega (arith, h, top)

  low : Lowest 64 k s.marks
  low = subst (λ n. Lowest 64 n s.marks) (sym is) (trailing_lowest s.marks small)

  pub settle_fits : k ≤ 4294967295 - s.base
  settle_fits = omega (arith, lowest_fits 64 k s.marks (min 64 (4294967295 - s.base)) low h)

  none_left : 64 ≤ k → 0 ≡ s.marks / 2 ^ k
  none_left over = let top : 2 ^ 64 ≤ 2 ^ k = pow_mono {i = 64} {j = k} over in sym (div-eq_of_lt (omega (arith, small, top)))

  pub settle_makes : (m : ℕ) → m ≡ cond (nat_lt k 64) (s.marks / 2 ^ k) 0 → record { base = s.base + k; marks = m } ≡ rise 64 s
  settle_makes m e =
      let shifted : m ≡ s.marks / 2 ^ k = e ∙ cond_both (nat_lt k 64) (s.marks / 2 ^ k) 0 (λ r. r ≡ s.marks / 2 ^ k) (λ _. refl) (λ no. none_left (ltb-false k 64 no)) in
      (λ i. record { base = s.base + k; marks = shifted i }) ∙ sym (rise_by 64 k s low)
