-- A number with a point, by what stands before and after it.
use Rattle.std.proofs.Common.{◌≡◌, ℕ, ◌+◌, ◌-◌, ◌<◌, ◌≤◌, List, [], ◌∷◌, length, get_or, take, drop, None, sym, refl, ap, ◌∙◌, arith, add-one}
use Rattle.std.proofs.Math.Seq.{drop-cons}
use Rattle.std.proofs.lemmas.Bool.Decides.{nat_tests}
use Rattle.std.specs.Str.{IsCharBoundary}
use Rattle.orders.specs.Numbers.{number_in, hundredths, hundredths_in, from_zero, degrees_in}

pub too_short : (w : List ℕ) → length w < 3 → hundredths_in w ≡ None
unfolding hundredths_in
too_short w h = grind (arith, nat_tests)

cut : (w : List ℕ) (i : ℕ) → i < length w → drop i w ≡ get_or w i 0 ∷ drop (i + 1) w
cut w i h = rw (add-one, drop-cons w i 0) refl

pub no_point : (w : List ℕ) → ((rest : List ℕ) → (drop (length w - 3) w ≡ 46 ∷ rest) → ⊥) → hundredths_in w ≡ None
unfolding hundredths_in
no_point w h =
    let here : 3 ≤ length w → drop (length w - 3) w ≡ get_or w (length w - 3) 0 ∷ drop (length w - 3 + 1) w = λ l. cut w (length w - 3) (omega arith) in
    let other : 3 ≤ length w → get_or w (length w - 3) 0 ≡ 46 → ⊥ = λ l e. h (drop (length w - 3 + 1) w) (here l ∙ ap (λ b. b ∷ drop (length w - 3 + 1) w) e) in
    grind (arith, nat_tests, other)

point_there : (w part : List ℕ) → 3 ≤ length w → drop (length w - 3) w ≡ 46 ∷ part → get_or w (length w - 3) 0 ≡ 46
point_there w part h e =
    let both : 46 ∷ part ≡ get_or w (length w - 3) 0 ∷ drop (length w - 3 + 1) w = sym e ∙ cut w (length w - 3) (omega arith) in
    cc

-- a point begins a character
pub no_boundary : (w : List ℕ) → 3 ≤ length w → (IsCharBoundary w (length w - 3) → ⊥) → hundredths_in w ≡ None
no_boundary w h n = no_point w (λ part e.
    let point = point_there w part h e in
    n (omega arith, λ within big. absurd (omega (arith, big, point))))

pub pointed : (w part : List ℕ) → 3 ≤ length w → drop (length w - 3) w ≡ 46 ∷ part → hundredths_in w ≡ hundredths (number_in (take (length w - 3) w)) (number_in part)
unfolding hundredths_in
pointed w part h e =
    let here : drop (length w - 3) w ≡ get_or w (length w - 3) 0 ∷ drop (length w - 3 + 1) w = cut w (length w - 3) (omega arith) in
    let point : get_or w (length w - 3) 0 ≡ 46 = point_there w part h e in
    let both : 46 ∷ part ≡ get_or w (length w - 3) 0 ∷ drop (length w - 3 + 1) w = sym e ∙ here in
    let next : length w - 3 + 1 ≡ length w - 2 = omega arith in
    let rest : drop (length w - 2) w ≡ part = cc in
    grind (arith, nat_tests, point, rest)

-- with no minus sign in front
pub unsigned_degrees : (w : List ℕ) → ((rest : List ℕ) → (w ≡ 45 ∷ rest) → ⊥) → degrees_in w ≡ from_zero (hundredths_in w)
unsigned_degrees [] h = refl
unsigned_degrees (b ∷ bs) h =
    let other : b ≡ 45 → ⊥ = λ e. h bs (ap (λ x. x ∷ bs) e) in
    grind (arith, nat_tests, other)
