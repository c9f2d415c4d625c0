-- Marking keeps what a window promises: the lowest mark is not set, and every mark is of a timestamp below 2 ^ 32.
use Rattle.std.specs.Prelude.{◌≡◌, ℕ, zero, suc, ◌+◌, ◌-◌, ◌/◌, ◌%◌, ◌^◌, ◌<◌, ◌≤◌, min, true, ◌==◌, nat_le, nat_lt, refl}
use Rattle.std.proofs.Common.{subst, pow-suc, arith, lit<, pow_mono}
use Rattle.std.proofs.lemmas.Nat.{or_lt}
use Rattle.std.proofs.Math.Pow.{pow-lt}
use Rattle.std.proofs.lemmas.Bool.{eqb-true, eqb-false, cond_both, and_parts, leb-true, ltb-true}
use Rattle.window.specs.declared.span.Span.{Span}
use Rattle.window.specs.declared.window.Window.{Window}
use Rattle.window.specs.Spans.{bit, free, put, up, rise, marked, Low, Fitted}

-- what a free timestamp is
pub free_range : (s : Span) (t : ℕ) → free s t ≡ true → (s.base < t) × (t - s.base ≤ 64) × (t ≤ 4294967295) × (bit s t ≡ 0)
free_range s t e =
    let a = and_parts (nat_lt s.base t) _ e in
    let b = and_parts (nat_le (t - s.base) 64) _ a.1 in
    let d = and_parts (nat_le t 4294967295) _ b.1 in
    (ltb-true s.base t a.0, leb-true (t - s.base) 64 b.0, leb-true t 4294967295 d.0, eqb-true (bit s t) 0 d.1)

-- half of an odd number below 2 ^ k is below 2 ^ (k - 1)
pub half_below : (m k : ℕ) → m % 2 ≡ 1 → m < 2 ^ k → (0 < k) × (m / 2 < 2 ^ (k - 1))
half_below m zero e h = absurd (omega (arith, h))
half_below m (suc k) e h = (omega arith, let p = pow-suc 2 k in let q : suc k - 1 ≡ k = omega arith in rw q (omega (arith, p, h)))

pub up_fitted : (s : Span) → s.marks % 2 ≡ 1 → Fitted s → Fitted (up s)
up_fitted s odd h =
    let j : ℕ = min 64 (4294967295 - s.base) in
    let b = half_below s.marks j odd h in
    let low : 2 ^ (j - 1) ≤ 2 ^ min 64 (4294967295 - (s.base + 1)) = pow_mono (omega arith) in
    omega (arith, b.1, low)

pub put_fitted : (s : Span) (t : ℕ) → free s t ≡ true → Fitted s → Fitted (put s t)
put_fitted s t e h = let r = free_range s t e in or_lt _ s.marks (2 ^ (t - s.base - 1)) h (pow-lt (omega (arith, r.0, r.1, r.2)))

rise_fitted : (n : ℕ) (s : Span) → Fitted s → Fitted (rise n s)
unfolding rise
rise_fitted zero s h = h
rise_fitted (suc n) s h = cond_both (s.marks % 2 == 1) _ _ Fitted (λ e. rise_fitted n (up s) (up_fitted s (eqb-true (s.marks % 2) 1 e) h)) (λ _. h)

rise_low : (n : ℕ) (s : Span) → s.marks < 2 ^ n → Low (rise n s)
unfolding rise
rise_low zero s h = omega (arith, h)
rise_low (suc n) s h =
    cond_both (s.marks % 2 == 1) _ _ Low
    (λ e. rise_low n (up s) (let odd = eqb-true (s.marks % 2) 1 e in let q : suc n - 1 ≡ n = omega arith in subst (λ k. s.marks / 2 < 2 ^ k) q (half_below s.marks (suc n) odd h).1))
    (λ e. omega (arith, eqb-false (s.marks % 2) 1 e))

pub marked_fitted : (s : Span) (t : ℕ) → Fitted s → Fitted (marked s t)
marked_fitted s t h = cond_both (free s t) _ _ Fitted (λ e. rise_fitted 64 (put s t) (put_fitted s t e h)) (λ _. h)

pub marked_low : (s : Span) (t : ℕ) → Fitted s → Low s → Low (marked s t)
marked_low s t h low =
    cond_both (free s t) _ _ Low
    (λ e. rise_low 64 (put s t) (let k : 2 ^ min 64 (4294967295 - s.base) ≤ 2 ^ 64 = pow_mono {i = min 64 (4294967295 - s.base)} {j = 64} (omega arith) in omega (arith, put_fitted s t e h, k)))
    (λ _. low)

-- the window after a mark
abbrev pub after : Window → ℕ → Window
after w t = record { span = marked w.span t; low = marked_low w.span t w.fits w.low; fits = marked_fitted w.span t w.fits }

-- the window of a client that nothing was applied of
abbrev pub fresh : Window
fresh = record { span = record { base = 0; marks = 0 }; low = refl; fits = lit< tt }
