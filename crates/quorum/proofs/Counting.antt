-- Counting: two large sets overlap, and a list of ascending signers is a set of as many controllers.
use Rattle.std.proofs.Common.{◌≡◌, ℕ, zero, suc, ◌+◌, ◌<◌, ◌≤◌, Bool, true, false, not, ◌&&◌, ◌||◌, eqb, ◌⊎◌, List, [], ◌∷◌, length, refl, ap, subst, inl, inr, arith}
use Rattle.std.proofs.lemmas.Bool.{and_parts, or_cases, or_from, not-true, eq-eqb, ne_eqb, eqb-true, cases_eq, false≢true}
use Rattle.std.specs.List.{AllByRecursion}
use Rattle.quorum.specs.Sizes.{allowed, faults, quorum}
use Rattle.quorum.specs.Sets.{one, count, Quorum, Trusty, Shared, Ascends, signed_by}
use Rattle.quorum.specs.Laws.{QuorumsOverlap, QuorumsMeet, QuorumHonest, SignersCount}
use Rattle.quorum.proofs.Allowed.{sizes}

-- two sets
one_meet : (a b : Bool) → one a + one b ≤ 1 + one (a && b)
one_meet true true = omega arith
one_meet true false = omega arith
one_meet false true = omega arith
one_meet false false = omega arith

pub count_meet : (A B : ℕ → Bool) (n : ℕ) → count A n + count B n ≤ n + count (λ i. A i && B i) n
count_meet A B zero = omega arith
count_meet A B (suc n) = omega (arith, one_meet (A n) (B n), count_meet A B n)

one_not : (a : Bool) → one a + one (not a) ≡ 1
one_not true = refl
one_not false = refl

pub count_not : (A : ℕ → Bool) (n : ℕ) → count A n + count (λ i. not (A i)) n ≡ n
count_not A zero = refl
count_not A (suc n) = omega (arith, one_not (A n), count_not A n)

pub find : (p : ℕ → Bool) (n : ℕ) → 0 < count p n → (i : ℕ) × (i < n) × (p i ≡ true)
find p zero h = absurd (omega arith)
find p (suc n) h = go (p n) refl (find p n)
  where
    go : (b : Bool) → p n ≡ b → (0 < count p n → (i : ℕ) × (i < n) × (p i ≡ true)) → (i : ℕ) × (i < suc n) × (p i ≡ true)
    go true e ih = (n, omega arith, e)
    go false e ih = let r : (i : ℕ) × (i < n) × (p i ≡ true) = ih (omega (arith, ap one e)) in (r.0, omega arith, r.2)

-- an honest controller in both of two quorums; from n + f + 1 ≤ 2q alone
pub meet : (n f q : ℕ) (honest : ℕ → Bool) → Trusty n f q honest → (P Q : ℕ → Type 0) → Quorum n q P → Quorum n q Q → Shared n honest P Q
meet n f q honest house P Q a b =
    let both : ℕ → Bool = λ i. a.«in» i && b.«in» i in
    let all : ℕ → Bool = λ i. both i && honest i in
    let w : (i : ℕ) × (i < n) × (all i ≡ true) = find all n (omega (arith, count_meet a.«in» b.«in» n, count_meet both honest n, count_not honest n)) in
    let h = and_parts (both w.0) (honest w.0) w.2 in
    let k = and_parts (a.«in» w.0) (b.«in» w.0) h.0 in
    record { who = w.0; below = w.1; is_honest = h.1; left = a.each w.0 w.1 k.0; right = b.each w.0 w.1 k.1 }

-- a set that is a test, as a quorum
pub of_set : {n q : ℕ} (A : ℕ → Bool) → q ≤ count A n → Quorum n q (λ i. A i ≡ true)
of_set A h = record { «in» = A; enough = h; each = λ i _ e. e }

-- a house of an allowed size
pub trusty : (n : ℕ) (honest : ℕ → Bool) → allowed n ≡ true → count (λ i. not (honest i)) n ≤ faults n → Trusty n (faults n) (quorum n) honest
trusty n honest h few = record { few = few; wide = (sizes n h).wide }

pub quorums_overlap : QuorumsOverlap
quorums_overlap n a b h ha hb = omega (arith, (sizes n h).wide, count_meet a b n)

pub quorums_meet : QuorumsMeet
quorums_meet n liar a b h few ha hb =
    let honest : ℕ → Bool = λ i. not (liar i) in
    let lies : count (λ i. not (honest i)) n ≤ faults n = omega (arith, count_not liar n, count_not honest n) in
    let w = meet n (faults n) (quorum n) honest (trusty n honest h lies) _ _ (of_set a ha) (of_set b hb) in
    record { who = w.who; below = w.below; left = w.left; right = w.right; truthful = not-true (liar w.who) w.is_honest }

pub quorum_honest : QuorumHonest
quorum_honest n liar a h few ha =
    (omega (arith, (sizes n h).outnumbers), omega (arith, count_meet a (λ i. not (liar i)) n, count_not liar n))

-- lists of ascending signers
one_or : (a b : Bool) → one b ≤ one (a || b)
one_or true true = omega arith
one_or true false = omega arith
one_or false b = omega arith

count_or : (A B : ℕ → Bool) (n : ℕ) → count B n ≤ count (λ i. A i || B i) n
count_or A B zero = omega arith
count_or A B (suc n) = omega (arith, one_or (A n) (B n), count_or A B n)

pub count_insert : (p : ℕ → Bool) (x n : ℕ) → x < n → p x ≡ false → suc (count p n) ≤ count (λ i. eqb i x || p i) n
count_insert p x zero h e = absurd (omega arith)
count_insert p x (suc n) h e = go (cases_eq n x) (count_insert p x n)
  where
    go : (n ≡ x) ⊎ (n ≡ x → ⊥) → (x < n → p x ≡ false → suc (count p n) ≤ count (λ i. eqb i x || p i) n) → suc (count p (suc n)) ≤ count (λ i. eqb i x || p i) (suc n)
    go (inl k) ih =
        let here : one (eqb n x || p n) ≡ 1 = rw (eq-eqb n x k) in
        let was : one (p n) ≡ 0 = rw k (ap one e) in
        omega (arith, here, was, count_or (λ i. eqb i x) p n)
    go (inr k) ih = omega (arith, one_or (eqb n x) (p n), ih (omega arith) e)

module _ {X : Type 0} (names : X → ℕ) where
  signed_above : (n lo : ℕ) (xs : List X) → Ascends names n lo xs → (i : ℕ) → i < lo → signed_by names xs i ≡ false
  signed_above n lo [] a i h = refl
  signed_above n lo (x ∷ xs) a i h = or_from (eqb i (names x)) (signed_by names xs i) (ne_eqb i (names x) (omega arith)) (signed_above n (names x + 1) xs a.2 i (omega arith))

  pub signed_count : (n lo : ℕ) (xs : List X) → Ascends names n lo xs → length xs ≤ count (signed_by names xs) n
  signed_count n lo [] a = omega arith
  signed_count n lo (x ∷ xs) a =
      omega (arith, signed_count n (names x + 1) xs a.2, count_insert (signed_by names xs) (names x) n a.1 (signed_above n (names x + 1) xs a.2 (names x) (omega arith)))

  pub signed_each : (P : X → Type 0) (xs : List X) → AllByRecursion P xs → (i : ℕ) → signed_by names xs i ≡ true → (x : X) × (names x ≡ i) × P x
  signed_each P [] a i e = absurd (false≢true e)
  signed_each P (x ∷ xs) a i e = go (or_cases (eqb i (names x)) (signed_by names xs i) e) (signed_each P xs a.1 i)
    where
      go : (eqb i (names x) ≡ true) ⊎ (signed_by names xs i ≡ true) → (signed_by names xs i ≡ true → (y : X) × (names y ≡ i) × P y) → (y : X) × (names y ≡ i) × P y
      go (inl k) ih = (x, omega (arith, eqb-true i (names x) k), a.0)
      go (inr k) ih = ih k

  -- the signers of records of each of which P holds
  pub quorum_of : (n q : ℕ) (P : X → Type 0) (xs : List X) → Ascends names n 0 xs → AllByRecursion P xs → q ≤ length xs → Quorum n q (λ i. (x : X) × (names x ≡ i) × P x)
  quorum_of n q P xs a h k = record { «in» = signed_by names xs; enough = omega (arith, signed_count n 0 xs a); each = λ i _ e. signed_each P xs h i e }

  -- the same where P is a fact of the signer
  pub quorum_at : (n q : ℕ) (P : ℕ → Type 0) (xs : List X) → Ascends names n 0 xs → AllByRecursion (λ x. P (names x)) xs → q ≤ length xs → Quorum n q P
  quorum_at n q P xs a h k =
      record {
        «in» = signed_by names xs;
        enough = omega (arith, signed_count n 0 xs a);
        each = λ i _ e. let r = signed_each (λ x. P (names x)) xs h i e in subst P r.1 r.2;
      }

pub signers_count : SignersCount
signers_count n signers a = signed_count (λ s. s) n 0 signers a
