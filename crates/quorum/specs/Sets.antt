-- Sets of controllers as tests on their numbers, and how many controllers are in one.
use Rattle.std.specs.Prelude.{◌≡◌, ℕ, zero, suc, ◌+◌, ◌*◌, ◌<◌, ◌≤◌, Bool, true, false, not, ◌||◌, List, [], ◌∷◌, ◌==◌}

abbrev pub one : Bool → ℕ
one true = 1
one false = 0

-- how many of the controllers 0 .. n - 1 are in the set
abbrev pub count : (ℕ → Bool) → ℕ → ℕ
count p zero = 0
count p (suc n) = one (p n) + count p n

-- q different controllers below n of each of which P holds
pub record Quorum (n q : ℕ) (P : ℕ → Type 0) : Type 0 where
  pub «in» : ℕ → Bool
  pub enough : q ≤ count «in» n
  pub each : (i : ℕ) → i < n → «in» i ≡ true → P i

-- q different controllers, and P of each that is honest
abbrev pub Backed : (n q : ℕ) → (ℕ → Bool) → (ℕ → Type 0) → Type 0
Backed n q honest P = Quorum n q (λ i. honest i ≡ true → P i)

-- at most f of the n controllers are not honest, and q is large enough
pub record Trusty (n f q : ℕ) (honest : ℕ → Bool) : Type 0 where
  pub few : count (λ i. not (honest i)) n ≤ f
  pub wide : n + f + 1 ≤ 2 * q

-- an honest controller of which both hold
pub record Shared (n : ℕ) (honest : ℕ → Bool) (P Q : ℕ → Type 0) : Type 0 where
  pub who : ℕ
  pub below : who < n
  pub is_honest : honest who ≡ true
  pub left : P who
  pub right : Q who

-- the signers of records ascend from a least one on, and are below n
abbrev pub Ascends : {X : Type 0} → (X → ℕ) → ℕ → ℕ → List X → Type 0
Ascends names n least [] = Unit {0}
Ascends names n least (x ∷ xs) = (least ≤ names x) × (names x < n) × Ascends names n (names x + 1) xs

-- the set of those who signed one of the records
abbrev pub signed_by : {X : Type 0} → (X → ℕ) → List X → ℕ → Bool
signed_by names [] i = false
signed_by names (x ∷ xs) i = i == names x || signed_by names xs i
