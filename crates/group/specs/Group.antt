-- A group: q records by ascending signers below n that each keep a rule.
use Rattle.std.specs.Prelude.{◌≡◌, ℕ, zero, suc, ◌+◌, ◌-◌, ◌<◌, ◌≤◌, Bool, true, cond, ◌&&◌, List, [], ◌∷◌, length, take, is_ok, Some, None, Ok, Err, Option, Result, ◌==◌, nat_le, nat_lt, slice_index_or}
use Rattle.std.specs.List.{AllByRecursion}
use Rattle.wire.specs.declared.records.DigestValue.{DigestValue}
use Rattle.wire.specs.declared.records.Statement.{Statement}
use Rattle.wire.specs.declared.records.Sealed.{Sealed}
use Rattle.quorum.specs.Sets.{count, Ascends, signed_by}
use Rattle.wire.specs.declared.kinds.Kind.{Kind}
use Rattle.wire.specs.declared.kinds.Kind.TheVariants.{Commit}
use Rattle.wire.specs.Kinds.{same_kind}
use Rattle.wire.specs.Values.{same_digest}
use Rattle.seal.specs.Records.{none, signer_of}

module _ {X : Type 0} (names : X → ℕ) (allows : X → Bool) (n : ℕ) where
  -- its signer is not below the least that may follow and is below n, and it keeps the rule
  abbrev pub stands : ℕ → X → Bool
  stands least x = nat_le least (names x) && (nat_lt (names x) n && allows x)

  -- of k records from a place on: the place after them, or that of the first at fault or missing
  unfoldable pub grouped : ℕ → ℕ → ℕ → List X → Result ℕ ℕ
  grouped zero place least xs = Ok place
  grouped (suc k) place least [] = Err place
  grouped (suc k) place least (x ∷ xs) = cond (stands least x) (grouped k (place + 1) (names x + 1) xs) (Err place)

-- a record after the group is at fault too
abbrev pub surplus : ℕ → Result ℕ ℕ → Option ℕ
surplus len (Err i) = Some i
surplus len (Ok next) = cond (nat_lt next len) (Some next) None

-- of a list that is one group and nothing else: the index of the first record at fault, missing or surplus
abbrev pub list_fault : {X : Type 0} → (X → ℕ) → (X → Bool) → ℕ → ℕ → List X → Option ℕ
list_fault names allows n q xs = surplus (length xs) (grouped names allows n q 0 0 xs)

-- the first q records of a list are a quorum, whatever else they say
abbrev pub quorum_held : {X : Type 0} → (X → ℕ) → ℕ → ℕ → List X → Bool
quorum_held names n q xs = is_ok (grouped names (λ _. true) n q 0 0 xs)

-- a genuine statement of which all but the signer is given
abbrev pub exactly : (Statement → ℕ → Bool) → Kind → ℕ → ℕ → DigestValue → Sealed → Bool
exactly accepts kind epoch number digest r =
    let st = r.statement in
    (same_kind st.kind kind) && (st.epoch == epoch && (st.number == number && (st.held == 0
    && (same_digest st.digest digest && accepts st r.seal))))

-- a list that proves a number: q commits of it, of one epoch from 1 up and one digest, which the first sets
abbrev pub commits_fault : (Statement → ℕ → Bool) → ℕ → ℕ → ℕ → List Sealed → Option ℕ
commits_fault accepts n q number rs =
    let st = (slice_index_or rs 0 none).statement in
    cond (st.epoch == 0) (Some 0) (list_fault signer_of (exactly accepts Commit st.epoch number st.digest) n q rs)

-- what a group that came through shows
pub record Stood {X : Type 0} (names : X → ℕ) (allows : X → Bool) (n k place least : ℕ) (xs : List X) (next : ℕ) : Type 0 where
  pub enough : k ≤ length xs
  pub after : next ≡ place + k
  pub ascends : Ascends names n least (take k xs)
  pub passes : AllByRecursion (λ x. allows x ≡ true) (take k xs)

-- what a fault shows: the records before it are a group, and with it they are none
pub record Fell {X : Type 0} (names : X → ℕ) (allows : X → Bool) (n k place least : ℕ) (xs : List X) (fault : ℕ) : Type 0 where
  pub from : place ≤ fault
  pub short : fault < place + k
  pub within : fault ≤ place + length xs
  pub before : grouped names allows n (fault - place) place least xs ≡ Ok fault
  pub here : grouped names allows n (fault - place + 1) place least xs ≡ Err fault

-- what a list shows that is one group: q records, by so many different controllers below n, and each keeps the rule
pub record Whole {X : Type 0} (names : X → ℕ) (allows : X → Bool) (n q : ℕ) (xs : List X) : Type 0 where
  pub long : length xs ≡ q
  pub ascends : Ascends names n 0 xs
  pub counted : q ≤ count (signed_by names xs) n
  pub passes : AllByRecursion (λ x. allows x ≡ true) xs

-- what the check is for, of any records and rule
pub record Groups {X : Type 0} (names : X → ℕ) (allows : X → Bool) : Type 0 where
  -- a group that comes through
  pub stood : (n k place least : ℕ) (xs : List X) (next : ℕ) → grouped names allows n k place least xs ≡ Ok next → Stood names allows n k place least xs next
  -- one that does not
  pub fell : (n k place least : ℕ) (xs : List X) (fault : ℕ) → grouped names allows n k place least xs ≡ Err fault → Fell names allows n k place least xs fault
  -- the signers of a group are q different controllers
  pub counted : (n q place : ℕ) (xs : List X) (next : ℕ) → grouped names allows n q place 0 xs ≡ Ok next → q ≤ count (signed_by names (take q xs)) n
  -- a list with no fault
  pub whole : (n q : ℕ) (xs : List X) → list_fault names allows n q xs ≡ None → Whole names allows n q xs
  -- a list with one: the index is at most the right length, and the length that it has
  pub index : (n q : ℕ) (xs : List X) (i : ℕ) → list_fault names allows n q xs ≡ Some i → (i ≤ q) × (i ≤ length xs)
  -- of a list by ascending signers the length alone decides
  pub ascending : (n q : ℕ) (xs : List X) → Ascends names n 0 xs → quorum_held names n q xs ≡ nat_le q (length xs)

-- what a list that proves a number shows: q controllers committed one digest there, in one epoch
pub record Proved (accepts : Statement → ℕ → Bool) (n q number : ℕ) (rs : List Sealed) : Type 0 where
  pub epoch : ℕ
  pub digest : DigestValue
  pub begun : 0 < epoch
  pub commits : Whole signer_of (exactly accepts Commit epoch number digest) n q rs

abbrev pub CommitsProve : Type 0
CommitsProve =
    (accepts : Statement → ℕ → Bool) (n q number : ℕ) (rs : List Sealed)
    → commits_fault accepts n q number rs ≡ None → Proved accepts n q number rs
