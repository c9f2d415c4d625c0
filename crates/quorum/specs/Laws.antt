-- Two quorums of a house share an honest controller.
use Rattle.std.specs.Prelude.{◌≡◌, ℕ, ◌+◌, ◌-◌, ◌<◌, ◌≤◌, Bool, true, false, not, ◌&&◌, List, length}
use Rattle.quorum.specs.Sizes.{allowed, faults, quorum}
use Rattle.quorum.specs.Sets.{count, Ascends, signed_by}

-- two sets of at least a quorum have more than f controllers in common
abbrev pub QuorumsOverlap : Type 0
QuorumsOverlap =
    (n : ℕ) (a b : ℕ → Bool) → allowed n ≡ true → quorum n ≤ count a n → quorum n ≤ count b n
    → faults n + 1 ≤ count (λ i. a i && b i) n

-- a controller that is in both sets and does not lie
pub record Witness (n : ℕ) (liar a b : ℕ → Bool) : Type 0 where
  pub who : ℕ
  pub below : who < n
  pub left : a who ≡ true
  pub right : b who ≡ true
  pub truthful : liar who ≡ false

-- so with at most f liars one of those does not lie
abbrev pub QuorumsMeet : Type 0
QuorumsMeet =
    (n : ℕ) (liar a b : ℕ → Bool) → allowed n ≡ true → count liar n ≤ faults n → quorum n ≤ count a n → quorum n ≤ count b n
    → Witness n liar a b

-- and of one quorum at least q - f controllers, which is one or more, do not lie
abbrev pub QuorumHonest : Type 0
QuorumHonest =
    (n : ℕ) (liar a : ℕ → Bool) → allowed n ≡ true → count liar n ≤ faults n → quorum n ≤ count a n
    → (1 ≤ quorum n - faults n) × (quorum n - faults n ≤ count (λ i. a i && not (liar i)) n)

-- signers that ascend below n are a set of as many controllers
abbrev pub SignersCount : Type 0
SignersCount = (n : ℕ) (signers : List ℕ) → Ascends (λ s. s) n 0 signers → length signers ≤ count (signed_by (λ s. s) signers) n
