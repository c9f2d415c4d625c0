-- The controllers of a house as a list, controller 0 first: how opening one and calling one change it.
use Rattle.std.specs.Prelude.{◌≡◌, ℕ, ◌<◌, ◌≤◌, List, [], ◌∷◌, ◌++◌, length, Some, None, Option, ◌≢◌, slice_index_or}
use Rattle.protocol.specs.declared.records.Core.{Core}
use Rattle.protocol.specs.State.{new_core}

-- the one of number i went on by a call; or there is none of that number, and neither they nor the outbox change
abbrev pub Answered : {X R O : Type 0} → List X → List X → O → O → ℕ → (X → R → X → Type 0) → Option R → Type 0
Answered before after outbox outbox_after i call None = (length before ≤ i) × (after ≡ before) × (outbox_after ≡ outbox)
Answered {X} before after outbox outbox_after i call (Some r) = (i < length before) × ((d : X) → call (slice_index_or before i d) r (slice_index_or after i d))

-- no other changes
abbrev pub Only : {X : Type 0} → List X → List X → ℕ → Type 0
Only {X} before after i = (length after ≡ length before) × ((k : ℕ) (d : X) → (k ≢ i) → slice_index_or after k d ≡ slice_index_or before k d)

-- one more at the end, of which this holds
abbrev pub Grown : {X : Type 0} → List X → List X → (X → Type 0) → Type 0
Grown {X} before after is = (x : X) × ((after ≡ before ++ x ∷ []) × is x)

-- there are n of them, and of each with its number this holds
abbrev pub Numbered : {X : Type 0} → List X → ℕ → (ℕ → X → Type 0) → Type 0
Numbered {X} xs n is = (length xs ≡ n) × ((k : ℕ) (d : X) → k < n → is k (slice_index_or xs k d))

-- x is the one of number i
abbrev pub IsAt : {X : Type 0} → List X → ℕ → X → Type 0
IsAt {X} xs i x = (d : X) → x ≡ slice_index_or xs i d

-- the core, digest and application of a controller that is new: of this number, in a house of n, with this digest and this start
pub record New {D A : Type 0} (n own : ℕ) (digest : D) (start : A) (core : Core) (d : D) (a : A) : Type 0 where
  pub size : core.house.n ≡ n
  pub number : core.house.own ≡ own
  pub fresh : core ≡ new_core core.house
  pub digests : d ≡ digest
  pub starts : a ≡ start
