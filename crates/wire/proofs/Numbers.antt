-- Numbers and their bytes.
use Rattle.std.proofs.Common.{◌≡◌, ℕ, zero, suc, ◌+◌, ◌*◌, ◌/◌, ◌%◌, ◌<◌, ◌≤◌, List, [], ◌∷◌, ◌++◌, length, get_or, drop, sym, refl, ap, ◌∙◌, mod-eq_of_lt, arith}
use native.Mathlib.Nat.{div-div-eq-div-mul}
use Rattle.std.proofs.lemmas.Nat.{div_below}
use Rattle.wire.specs.Bytes.{Bytes, bytes4, bytes8, four_at, eight_at}

-- one byte more to the right
pub step_back : (n k : ℕ) → n / k / 256 ≡ n / (k * 256)
step_back n k = div-div-eq-div-mul n k 256

pub four_back : (n : ℕ) → n < 4294967296 → (n / 16777216 % 256) * 16777216 + (n / 65536 % 256) * 65536 + (n / 256 % 256) * 256 + n % 256 ≡ n
four_back n h =
    let top : n / 16777216 < 256 = div_below n 16777216 256 (omega arith) (omega arith) in
    omega (arith, mod-eq_of_lt top, step_back n 256, step_back n 65536)

pub eight_back : (n : ℕ) → n < 18446744073709551616 → (n / 72057594037927936 % 256) * 72057594037927936 + (n / 281474976710656 % 256) * 281474976710656 + (n / 1099511627776 % 256) * 1099511627776 + (n / 4294967296 % 256) * 4294967296 + (n / 16777216 % 256) * 16777216 + (n / 65536 % 256) * 65536 + (n / 256 % 256) * 256 + n % 256 ≡ n
eight_back n h =
    let top : n / 72057594037927936 < 256 = div_below n 72057594037927936 256 (omega arith) (omega arith) in
    omega (arith, mod-eq_of_lt top, step_back n 256, step_back n 65536, step_back n 16777216, step_back n 4294967296, step_back n 1099511627776, step_back n 281474976710656)

-- the last byte of a number, and the others
cut : (n x d : ℕ) → n ≡ x * 256 + d → d < 256 → (n / 256 ≡ x) × (n % 256 ≡ d)
cut n x d e h = (omega arith, omega arith)

pub four_of : (a b d e : ℕ) → a < 256 → b < 256 → d < 256 → e < 256 → bytes4 (a * 16777216 + b * 65536 + d * 256 + e) ≡ a ∷ b ∷ d ∷ e ∷ []
four_of a b d e ha hb hd he =
    let n : ℕ = a * 16777216 + b * 65536 + d * 256 + e in
    let x : ℕ = a * 65536 + b * 256 + d in
    let y : ℕ = a * 256 + b in
    let i = cut n x e (omega arith) he in
    let j = cut x y d (omega arith) hd in
    let k = cut y a b (omega arith) hb in
    let l = cut a 0 a (omega arith) ha in
    let n2 : n / 65536 ≡ y = sym (step_back n 256) ∙ (ap (λ m. m / 256) i.0 ∙ j.0) in
    let n3 : n / 16777216 ≡ a = sym (step_back n 65536) ∙ (ap (λ m. m / 256) n2 ∙ k.0) in
    let t0 : n / 16777216 % 256 ≡ a = ap (λ m. m % 256) n3 ∙ l.1 in
    let t1 : n / 65536 % 256 ≡ b = ap (λ m. m % 256) n2 ∙ k.1 in
    let t2 : n / 256 % 256 ≡ d = ap (λ m. m % 256) i.0 ∙ j.1 in
    λ z. t0 z ∷ t1 z ∷ t2 z ∷ i.1 z ∷ []

pub eight_of : (a b d e f g h k : ℕ) → a < 256 → b < 256 → d < 256 → e < 256 → f < 256 → g < 256 → h < 256 → k < 256 → bytes8 (a * 72057594037927936 + b * 281474976710656 + d * 1099511627776 + e * 4294967296 + f * 16777216 + g * 65536 + h * 256 + k) ≡ a ∷ b ∷ d ∷ e ∷ f ∷ g ∷ h ∷ k ∷ []
eight_of a b d e f g h k ha hb hd he hf hg hh hk =
    let n : ℕ = a * 72057594037927936 + b * 281474976710656 + d * 1099511627776 + e * 4294967296 + f * 16777216 + g * 65536 + h * 256 + k in
    let x1 : ℕ = a * 281474976710656 + b * 1099511627776 + d * 4294967296 + e * 16777216 + f * 65536 + g * 256 + h in
    let x2 : ℕ = a * 1099511627776 + b * 4294967296 + d * 16777216 + e * 65536 + f * 256 + g in
    let x3 : ℕ = a * 4294967296 + b * 16777216 + d * 65536 + e * 256 + f in
    let x4 : ℕ = a * 16777216 + b * 65536 + d * 256 + e in
    let x5 : ℕ = a * 65536 + b * 256 + d in
    let x6 : ℕ = a * 256 + b in
    let c0 = cut (n) (x1) k (omega arith) hk in
    let c1 = cut (x1) (x2) h (omega arith) hh in
    let c2 = cut (x2) (x3) g (omega arith) hg in
    let c3 = cut (x3) (x4) f (omega arith) hf in
    let c4 = cut (x4) (x5) e (omega arith) he in
    let c5 = cut (x5) (x6) d (omega arith) hd in
    let c6 = cut (x6) (a) b (omega arith) hb in
    let c7 = cut (a) (0) a (omega arith) ha in
    let n1 : n / 256 ≡ x1 = c0.0 in
    let n2 : n / 65536 ≡ x2 = sym (step_back n 256) ∙ (ap (λ m. m / 256) n1 ∙ c1.0) in
    let n3 : n / 16777216 ≡ x3 = sym (step_back n 65536) ∙ (ap (λ m. m / 256) n2 ∙ c2.0) in
    let n4 : n / 4294967296 ≡ x4 = sym (step_back n 16777216) ∙ (ap (λ m. m / 256) n3 ∙ c3.0) in
    let n5 : n / 1099511627776 ≡ x5 = sym (step_back n 4294967296) ∙ (ap (λ m. m / 256) n4 ∙ c4.0) in
    let n6 : n / 281474976710656 ≡ x6 = sym (step_back n 1099511627776) ∙ (ap (λ m. m / 256) n5 ∙ c5.0) in
    let n7 : n / 72057594037927936 ≡ a = sym (step_back n 281474976710656) ∙ (ap (λ m. m / 256) n6 ∙ c6.0) in
    let t1 : n / 256 % 256 ≡ h = ap (λ m. m % 256) n1 ∙ c1.1 in
    let t2 : n / 65536 % 256 ≡ g = ap (λ m. m % 256) n2 ∙ c2.1 in
    let t3 : n / 16777216 % 256 ≡ f = ap (λ m. m % 256) n3 ∙ c3.1 in
    let t4 : n / 4294967296 % 256 ≡ e = ap (λ m. m % 256) n4 ∙ c4.1 in
    let t5 : n / 1099511627776 % 256 ≡ d = ap (λ m. m % 256) n5 ∙ c5.1 in
    let t6 : n / 281474976710656 % 256 ≡ b = ap (λ m. m % 256) n6 ∙ c6.1 in
    let t7 : n / 72057594037927936 % 256 ≡ a = ap (λ m. m % 256) n7 ∙ c7.1 in
    λ z. t7 z ∷ t6 z ∷ t5 z ∷ t4 z ∷ t3 z ∷ t2 z ∷ t1 z ∷ c0.1 z ∷ []

-- k elements from i on
abbrev pub listed : ℕ → ℕ → List ℕ → List ℕ
listed i zero bs = []
listed i (suc k) bs = get_or bs i 0 ∷ listed (suc i) k bs

shift : (i k : ℕ) (b : ℕ) (bs : List ℕ) → listed (suc i) k (b ∷ bs) ≡ listed i k bs
shift i zero b bs = refl
shift i (suc k) b bs = ap (λ l. get_or bs i 0 ∷ l) (shift (suc i) k b bs)

-- the first k elements, and the others
pub first_listed : (k : ℕ) (bs : List ℕ) → k ≤ length bs → bs ≡ listed 0 k bs ++ drop k bs
first_listed zero bs h = refl
first_listed (suc k) [] h = absurd (omega (arith, h))
first_listed (suc k) (b ∷ bs) h = ap (λ l. b ∷ l) (first_listed k bs (omega (arith, h)) ∙ ap (λ l. l ++ drop k bs) (sym (shift 0 k b bs)))

pub four_bytes : (bs : List ℕ) (i : ℕ) → Bytes bs → bytes4 (four_at bs i) ≡ get_or bs i 0 ∷ get_or bs (i + 1) 0 ∷ get_or bs (i + 2) 0 ∷ get_or bs (i + 3) 0 ∷ []
four_bytes bs i h = four_of _ _ _ _ (h i) (h (i + 1)) (h (i + 2)) (h (i + 3))

pub eight_bytes : (bs : List ℕ) (i : ℕ) → Bytes bs → bytes8 (eight_at bs i) ≡ get_or bs i 0 ∷ get_or bs (i + 1) 0 ∷ get_or bs (i + 2) 0 ∷ get_or bs (i + 3) 0 ∷ get_or bs (i + 4) 0 ∷ get_or bs (i + 5) 0 ∷ get_or bs (i + 6) 0 ∷ get_or bs (i + 7) 0 ∷ []
eight_bytes bs i h = eight_of _ _ _ _ _ _ _ _ (h i) (h (i + 1)) (h (i + 2)) (h (i + 3)) (h (i + 4)) (h (i + 5)) (h (i + 6)) (h (i + 7))
