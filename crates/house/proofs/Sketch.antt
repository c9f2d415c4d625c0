-- What the argument for one log looks at in a controller, and what holds of it after any of its calls, by itself.
use Rattle.std.proofs.Common.{◌≡◌, ℕ, ◌+◌, ◌<◌, ◌≤◌, Bool, true, false, ◌⊎◌, List, is_some, Some, None, Option}
use Rattle.wire.specs.declared.records.DigestValue.{DigestValue}
use Rattle.wire.specs.declared.records.Statement.{Statement}
use Rattle.dossier.specs.declared.parts.Opened.{Opened}
use Rattle.dossier.specs.Walk.{top}
use Rattle.dossier.specs.Laws.{prepare_by, stable_by, held_by, digest_of, Sound}
use Rattle.house.specs.Runs.{Has}
use Rattle.wire.specs.declared.kinds.Kind.TheVariants.{Commit}

pub record Sketch : Type 0 where
  pub epoch : ℕ
  pub changing : Bool
  pub first : ℕ
  pub last : Option ℕ
  pub stable : ℕ
  -- what a number is filled with, and the epoch of its certificate, 0 for none
  pub filled : ℕ → Option DigestValue
  pub cert : ℕ → ℕ

abbrev pub commit_by : ℕ → ℕ → ℕ → DigestValue → Statement
commit_by i epoch s d = record { kind = Commit; signer = i; epoch = epoch; number = s; held = 0; digest = d }

abbrev pub is_filled : Sketch → ℕ → Type 0
is_filled S s = is_some (S.filled s) ≡ true

-- an accepted dossier
pub record Seen (n q : ℕ) (honest : ℕ → Bool) (Issued : Statement → Type 0) : Type 0 where
  pub target : ℕ
  pub begun : 1 ≤ target
  pub o : Opened
  pub sound : Sound (record { threshold = record { n = n; q = q }; epoch = target }) honest Issued o

-- an epoch that is not later than the present one, and earlier while that is changing
abbrev pub Old : Sketch → ℕ → Type 0
Old S e = (e ≤ S.epoch) × (S.changing ≡ true → e < S.epoch)

-- the way from a commit at s in epoch e to the present epoch leads through a dossier that starts below s
pub record Link (n q : ℕ) (honest : ℕ → Bool) (Issued : Statement → Type 0) (S : Sketch) (e s : ℕ) : Type 0 where
  pub seen : Seen n q honest Issued
  pub after : e < seen.target
  pub upto : seen.target ≤ S.epoch
  pub above : seen.o.base < s
  pub filled : s ≤ top seen.o → (seen.target ≡ S.epoch) × ((s ≤ S.stable) ⊎ is_filled S s)

-- the way from a commit at s in epoch e to a prepare of d' there in a later epoch e'
pub record Crossed (n q : ℕ) (honest : ℕ → Bool) (Issued : Statement → Type 0) (e s e' : ℕ) (d' : DigestValue) : Type 0 where
  pub seen : Seen n q honest Issued
  pub after : e < seen.target
  pub upto : seen.target ≤ e'
  pub above : seen.o.base < s
  pub chosen : s ≤ top seen.o → (seen.target ≡ e') × (d' ≡ digest_of seen.o s)

-- what holds of the controller self, which has issued these statements
pub record Inv (n q self : ℕ) (honest : ℕ → Bool) (Issued : Statement → Type 0) (S : Sketch) (issued : List Statement) : Type 0 where
  pub begun : 1 ≤ S.epoch
  -- only the numbers of the window are filled
  pub filled_window : (s : ℕ) → is_filled S s → (S.stable < s) × (s ≤ S.stable + 32)
  pub prepare_old : (e s : ℕ) (d : DigestValue) → Has issued (prepare_by self e s d) → Old S e
  pub commit_old : (e s : ℕ) (d : DigestValue) → Has issued (commit_by self e s d) → (1 ≤ e) × Old S e × (s ≤ S.stable + 32)
  -- it prepared what it commits
  pub commit_prepared : (e s : ℕ) (d : DigestValue) → Has issued (commit_by self e s d) → Has issued (prepare_by self e s d)
  pub prepare_here : (e s : ℕ) (d : DigestValue) → Has issued (prepare_by self e s d) → e ≡ S.epoch → (s ≤ S.stable) ⊎ is_filled S s
  pub filled_prepared : (s : ℕ) (d : DigestValue) → S.changing ≡ false → S.filled s ≡ Some d → Has issued (prepare_by self S.epoch s d)
  pub one_prepare : (e s : ℕ) (d d' : DigestValue) → Has issued (prepare_by self e s d) → Has issued (prepare_by self e s d') → d ≡ d'
  -- a certificate stays as long as its number is not stable
  pub commit_cert : (e s : ℕ) (d : DigestValue) → Has issued (commit_by self e s d) → (s ≤ S.stable) ⊎ (e ≤ S.cert s)
  pub stable_old : (t m : ℕ) → Has issued (stable_by self t m) → t ≤ S.epoch
  pub held_old : (t s he : ℕ) (d : DigestValue) → Has issued (held_by self t s he d) → t ≤ S.epoch
  -- giving up to t told of every commit before
  pub kept : (e s : ℕ) (d : DigestValue) (t m : ℕ) → Has issued (commit_by self e s d) → Has issued (stable_by self t m) → e < t
      → (s ≤ m) ⊎ ((s ≤ m + 32) × ((he : ℕ) (d' : DigestValue) → Has issued (held_by self t s he d') → e ≤ he))
  pub first_last : (l : ℕ) → S.last ≡ Some l → S.first ≤ l + 1
  pub filled_last : (l s : ℕ) → S.last ≡ Some l → is_filled S s → s ≤ l
  pub gap : S.changing ≡ false → (e s : ℕ) (d : DigestValue) → Has issued (commit_by self e s d) → e < S.epoch
      → (s < S.first) ⊎ ((s ≤ S.stable) ⊎ Link n q honest Issued S e s)
  pub crossed : (e s : ℕ) (d : DigestValue) (e' : ℕ) (d' : DigestValue) → Has issued (commit_by self e s d) → Has issued (prepare_by self e' s d') → e < e'
      → Crossed n q honest Issued e s e' d'

-- THE STEPS: what a call does to the sketch (S before, R after) and to what is issued (before, after)

-- nothing that matters changes, but more may be issued of other kinds
pub record Same (S R : Sketch) : Type 0 where
  pub epoch : R.epoch ≡ S.epoch
  pub changing : R.changing ≡ S.changing
  pub first : R.first ≡ S.first
  pub last : R.last ≡ S.last
  pub stable : R.stable ≡ S.stable
  pub filled : (s : ℕ) → R.filled s ≡ S.filled s
  pub cert : (s : ℕ) → R.cert s ≡ S.cert s

-- a free number s of the epoch is filled with d
pub record Fills (S R : Sketch) (s : ℕ) (d : DigestValue) : Type 0 where
  pub steady : S.changing ≡ false
  pub epoch : R.epoch ≡ S.epoch
  pub changing : R.changing ≡ S.changing
  pub first : R.first ≡ S.first
  pub last : R.last ≡ S.last
  pub stable : R.stable ≡ S.stable
  pub low : S.stable < s
  pub high : s ≤ S.stable + 32
  pub from : S.first ≤ s
  pub to : (l : ℕ) → S.last ≡ Some l → s ≤ l
  pub was : S.filled s ≡ None
  pub here : R.filled s ≡ Some d
  pub else : (x : ℕ) → (x ≡ s → ⊥) → R.filled x ≡ S.filled x
  pub cert : (x : ℕ) → R.cert x ≡ S.cert x

-- a number s that is filled with d gets a certificate of the present epoch
pub record Certifies (S R : Sketch) (s : ℕ) (d : DigestValue) : Type 0 where
  pub steady : S.changing ≡ false
  pub epoch : R.epoch ≡ S.epoch
  pub changing : R.changing ≡ S.changing
  pub first : R.first ≡ S.first
  pub last : R.last ≡ S.last
  pub stable : R.stable ≡ S.stable
  pub is : S.filled s ≡ Some d
  pub filled : (x : ℕ) → R.filled x ≡ S.filled x
  pub here : R.cert s ≡ S.epoch
  pub else : (x : ℕ) → (x ≡ s → ⊥) → R.cert x ≡ S.cert x

-- a higher number becomes stable: what is above it stays
pub record Settles (S R : Sketch) : Type 0 where
  pub epoch : R.epoch ≡ S.epoch
  pub changing : R.changing ≡ S.changing
  pub first : R.first ≡ S.first
  pub last : R.last ≡ S.last
  pub stable : S.stable ≤ R.stable
  pub gone : (s : ℕ) → s ≤ R.stable → R.filled s ≡ None
  pub filled : (s : ℕ) → R.stable < s → R.filled s ≡ S.filled s
  pub cert : (s : ℕ) → R.stable < s → R.cert s ≡ S.cert s

-- the epoch is given up: the stable number and the certificates of the 32 numbers after it are told
pub record GivesUp (self : ℕ) (S R : Sketch) (before after : List Statement) : Type 0 where
  pub epoch : R.epoch ≡ S.epoch + 1
  pub changing : R.changing ≡ true
  pub first : R.first ≡ S.first
  pub last : R.last ≡ S.last
  pub stable : R.stable ≡ S.stable
  pub filled : (s : ℕ) → R.filled s ≡ S.filled s
  pub cert : (s : ℕ) → R.cert s ≡ S.cert s
  pub more : (a : Statement) → Has before a → Has after a
  pub only : (a : Statement) → Has after a
      → Has before a ⊎ ((a ≡ stable_by self (S.epoch + 1) S.stable) ⊎ ((s : ℕ) × (d : DigestValue) × (S.stable < s) × (s ≤ S.stable + 32) × (a ≡ held_by self (S.epoch + 1) s (S.cert s) d)))

-- an epoch is begun by a dossier
pub record Enters (n q self : ℕ) (honest : ℕ → Bool) (Issued : Statement → Type 0) (x : Seen n q honest Issued) (S R : Sketch) (before after : List Statement) : Type 0 where
  pub fresh : (S.epoch ≤ x.target) × (S.changing ≡ false → S.epoch < x.target)
  pub epoch : R.epoch ≡ x.target
  pub changing : R.changing ≡ false
  pub first : R.first ≡ x.o.base + 1
  pub last : R.last ≡ Some (x.o.base + 32)
  pub stable : (S.stable ≤ R.stable) × (x.o.base ≤ R.stable) × ((R.stable ≡ S.stable) ⊎ (R.stable ≡ x.o.base))
  -- above the stable number just the chosen numbers up to 32 above it are filled
  pub filled : (s : ℕ) (d : DigestValue) → R.filled s ≡ Some d → (R.stable < s) × (s ≤ R.stable + 32) × (s ≤ top x.o) × (d ≡ digest_of x.o s)
  pub chosen : (s : ℕ) → R.stable < s → s ≤ top x.o → R.filled s ≡ Some (digest_of x.o s)
  pub cert : (s : ℕ) → R.stable < s → R.cert s ≡ S.cert s
  pub more : (a : Statement) → Has before a → Has after a
  -- a prepare is issued for each that is filled, and nothing else
  pub only : (a : Statement) → Has after a → Has before a ⊎ ((s : ℕ) × (d : DigestValue) × (R.filled s ≡ Some d) × (a ≡ prepare_by self x.target s d))
  pub each : (s : ℕ) (d : DigestValue) → R.filled s ≡ Some d → Has after (prepare_by self x.target s d)

-- the next epoch begins after the last number
pub record Turns (S R : Sketch) : Type 0 where
  pub steady : S.changing ≡ false
  pub l : ℕ
  pub ended : S.last ≡ Some l
  pub epoch : R.epoch ≡ S.epoch + 1
  pub changing : R.changing ≡ false
  pub first : R.first ≡ l + 1
  pub last : (m : ℕ) → R.last ≡ Some m → l + 1 ≤ m
  pub stable : R.stable ≡ S.stable
  pub filled : (s : ℕ) → R.filled s ≡ None
  pub cert : (s : ℕ) → R.cert s ≡ S.cert s
