-- What an accepted dossier shows.
use Rattle.std.specs.Prelude.{◌≡◌, ℕ, ◌+◌, ◌-◌, ◌%◌, ◌<◌, ◌≤◌, Bool, true, ◌⊎◌, List, length, Some, Ok, Err, slice_index_or}
use Rattle.std.specs.List.{AllByRecursion}
use Rattle.wire.specs.declared.records.DigestValue.{DigestValue}
use Rattle.wire.specs.declared.records.Statement.{Statement}
use Rattle.wire.specs.declared.records.Sealed.{Sealed}
use Rattle.wire.specs.Values.{value_of}
use Rattle.seal.specs.Records.{signer_of}
use Rattle.quorum.specs.Sets.{Backed}
use Rattle.group.specs.Group.{exactly, Whole}
use Rattle.dossier.specs.declared.parts.Terms.{Terms}
use Rattle.dossier.specs.declared.parts.Opened.{Opened}
use Rattle.dossier.specs.Walk.{no_claim, walked, top, chosen, checkpoint_group}
use Rattle.wire.specs.declared.kinds.Kind.TheVariants.{Prepare, Checkpoint, Stable, Held}

-- the statements of a dossier, by controller i
abbrev pub prepare_by : ℕ → ℕ → ℕ → DigestValue → Statement
prepare_by i epoch s d = record { kind = Prepare; signer = i; epoch = epoch; number = s; held = 0; digest = d }

abbrev pub checkpoint_by : ℕ → ℕ → DigestValue → Statement
checkpoint_by i s mark = record { kind = Checkpoint; signer = i; epoch = 0; number = s; held = 0; digest = mark }

abbrev pub stable_by : ℕ → ℕ → ℕ → Statement
stable_by i epoch m = record { kind = Stable; signer = i; epoch = epoch; number = m; held = 0; digest = value_of 0 }

abbrev pub held_by : ℕ → ℕ → ℕ → ℕ → DigestValue → Statement
held_by i epoch s e d = record { kind = Held; signer = i; epoch = epoch; number = s; held = e; digest = d }

-- the highest held epoch of a number above the base, and the digest that goes with it
abbrev pub highest_of : Opened → ℕ → ℕ
highest_of o s = (slice_index_or o.claims (s - o.base - 1) no_claim).epoch

abbrev pub digest_of : Opened → ℕ → DigestValue
digest_of o s = (slice_index_or o.claims (s - o.base - 1) no_claim).digest

-- the checker accepts a record
abbrev pub Genuine : (Statement → ℕ → Bool) → Sealed → Type 0
Genuine accepts r = accepts r.statement r.seal ≡ true

-- controller i issued a held statement for s, of no higher epoch than the highest and, at the highest, of its digest
pub record Holds (Issued : Statement → Type 0) (epoch i s : ℕ) (o : Opened) : Type 0 where
  pub e : ℕ
  pub d : DigestValue
  pub issued : Issued (held_by i epoch s e d)
  pub below : e < epoch
  pub no_higher : e ≤ highest_of o s
  pub agrees : e ≡ highest_of o s → d ≡ digest_of o s

-- controller i issued a stable statement for m, at most the base, and a held statement for each number above the base up to m + 32
pub record Said (Issued : Statement → Type 0) (epoch i : ℕ) (o : Opened) : Type 0 where
  pub m : ℕ
  pub stable : Issued (stable_by i epoch m)
  pub low : m ≤ o.base
  pub held : (s : ℕ) → o.base < s → s ≤ m + 32 → Holds Issued epoch i s o

pub record Sound (terms : Terms) (honest : ℕ → Bool) (Issued : Statement → Type 0) (o : Opened) : Type 0 where
  -- q different signers, each of which, if honest, said so
  pub signers : Backed terms.threshold.n terms.threshold.q honest (λ i. Said Issued terms.epoch i o)
  -- q signers, where honest, issued checkpoints of one mark for the base
  pub marked : 0 < o.base → Backed terms.threshold.n terms.threshold.q honest (λ i. Issued (checkpoint_by i o.base o.mark))
  -- a claim is of an epoch below the new one, is not above top, and q signers, where honest, prepared it
  pub claim_below : 1 ≤ terms.epoch → (s : ℕ) → highest_of o s < terms.epoch
  pub claim_within : (s : ℕ) → o.base < s → 1 ≤ highest_of o s → s ≤ top o
  pub claim_backed : (s : ℕ) → o.base < s → 1 ≤ highest_of o s → Backed terms.threshold.n terms.threshold.q honest (λ i. Issued (prepare_by i (highest_of o s) s (digest_of o s)))
  -- top is the base or a number that is claimed, at most 32 above the base
  pub top_claimed : (top o ≡ o.base) ⊎ ((o.base < top o) × (1 ≤ highest_of o (top o)))
  pub top_near : top o ≤ o.base + 32
  -- chosen are the numbers above the base up to top, with the digest of the highest claim, which is 0 where nothing is held
  pub chosen_all : (s : ℕ) → o.base < s → s ≤ top o → chosen o s ≡ Some (digest_of o s)
  pub chosen_only : (s : ℕ) (d : DigestValue) → chosen o s ≡ Some d → (o.base < s) × (s ≤ top o) × (d ≡ digest_of o s)
  pub chosen_empty : (s : ℕ) → o.base < s → highest_of o s ≡ 0 → digest_of o s ≡ value_of 0

-- among the records handed in, each under an honest name that the checker accepts was issued
abbrev pub SealsHold : (Statement → ℕ → Bool) → (ℕ → Bool) → (Statement → Type 0) → List Sealed → Type 0
SealsHold accepts honest Issued rs = AllByRecursion (λ r. Genuine accepts r → honest (signer_of r) ≡ true → Issued r.statement) rs

-- THE LAWS

-- the checker accepts every record of an accepted dossier
abbrev pub AllAccepted : Type 0
AllAccepted = (accepts : Statement → ℕ → Bool) (terms : Terms) (rs : List Sealed) (o : Opened) → walked accepts terms rs ≡ Ok o → AllByRecursion (Genuine accepts) rs

-- an accepted dossier is sound
abbrev pub DossierSound : Type 0
DossierSound =
    (accepts : Statement → ℕ → Bool) (terms : Terms) (honest : ℕ → Bool) (issued : Statement → Bool) (rs : List Sealed) (o : Opened)
    → SealsHold accepts honest (λ st. issued st ≡ true) rs → walked accepts terms rs ≡ Ok o → Sound terms honest (λ st. issued st ≡ true) o

-- the index of a refusal is at most the length of the list
abbrev pub RefusedWithin : Type 0
RefusedWithin = (accepts : Statement → ℕ → Bool) (terms : Terms) (rs : List Sealed) (i : ℕ) → walked accepts terms rs ≡ Err i → i ≤ length rs

-- what the walk promises of a dossier that it accepts
pub record Admitted (accepts : Statement → ℕ → Bool) (terms : Terms) (rs : List Sealed) (o : Opened) : Type 0 where
  pub low : o.base ≤ 1000000000000
  pub aligned : o.base % 16 ≡ 0
  pub marks : 0 < o.base → Whole signer_of (exactly accepts Checkpoint 0 o.base o.mark) terms.threshold.n terms.threshold.q (checkpoint_group terms.threshold.q rs o)
  pub accepted : AllByRecursion (Genuine accepts) rs
  pub sound : (honest : ℕ → Bool) (issued : Statement → Bool) → SealsHold accepts honest (λ st. issued st ≡ true) rs → Sound terms honest (λ st. issued st ≡ true) o
