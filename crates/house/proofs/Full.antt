-- What holds of an honest controller with its application, log and issued statements after any run.
use Rattle.std.proofs.Common.{◌≡◌, ℕ, ◌+◌, ◌<◌, ◌≤◌, Bool, true, false, ◌⊎◌, List, [], ◌++◌, length, get_or, Some, None, append-nil}
use Rattle.std.specs.List.{flat_map, AllByRecursion}
use Rattle.wire.specs.declared.records.DigestValue.{DigestValue}
use Rattle.wire.specs.declared.records.Statement.{Statement}
use Rattle.wire.specs.declared.records.Sealed.{Sealed}
use Rattle.wire.specs.declared.records.Request.{Request}
use Rattle.wire.specs.declared.records.Batch.{Batch}
use Rattle.wire.specs.Values.{value_of, request_statement}
use Rattle.wire.specs.Frames.{requests_of}
use Rattle.digest.specs.Batched.{batch_digest}
use Rattle.quorum.specs.Sets.{Backed}
use Rattle.table.specs.declared.records.Ballot.{Ballot}
use Rattle.table.specs.declared.records.Place.{Place}
use Rattle.table.specs.Window.{in_window, place_at}
use Rattle.window.specs.Clients.{all_fresh}
use Rattle.window.specs.Deliveries.{delivered}
use Rattle.protocol.specs.declared.refusal.Refusal.{Refusal}
use Rattle.protocol.specs.Call.{Step, Effect, called}
use Rattle.dossier.specs.Laws.{prepare_by}
use Rattle.house.specs.Runs.{Node, Has}
use Rattle.house.proofs.Sketch.{Inv, commit_by}
use Rattle.house.proofs.Tables.{Long, filled_of, sketch_of}

-- a statement of an honest signer was issued
abbrev pub Heard : (ℕ → Bool) → (Statement → Type 0) → Statement → Type 0
Heard honest Issued a = honest a.signer ≡ true → Issued a

-- a batch of a digest: empty, or one that was handed in and whose digest is not 0
pub record BatchOk (value : List ℕ → DigestValue) (Handed : List Request → Type 0) (d : DigestValue) (rs : List Request) : Type 0 where
  pub digest : batch_digest value rs ≡ d
  pub got : (rs ≡ []) ⊎ (Handed rs × (length rs ≤ 16) × (d ≡ value_of 0 → ⊥))

-- a place that is filled with d: its commits are of one epoch, which is the present one unless that is changing, and its batch is of d
pub record PlaceOk (value : List ℕ → DigestValue) (honest : ℕ → Bool) (Issued : Statement → Type 0) (Handed : List Request → Type 0) (changing : Bool) (epoch s : ℕ) (p : Place) (d : DigestValue) : Type 0 where
  pub in_epoch : ℕ
  pub begun : 1 ≤ in_epoch
  pub current : changing ≡ false → in_epoch ≡ epoch
  pub commits : (i : ℕ) (x : Ballot) → get_or p.commits.of i None ≡ Some x → Heard honest Issued (commit_by i in_epoch s x.digest)
  pub batch : (b : Batch) → p.batch ≡ Some b → BatchOk value Handed d (requests_of b)

-- a batch that was delivered at s: a quorum committed its digest
pub record DeliveredOk (value : List ℕ → DigestValue) (n q : ℕ) (honest : ℕ → Bool) (Issued : Statement → Type 0) (Handed : List Request → Type 0) (s : ℕ) (rs : List Request) : Type 0 where
  pub epoch : ℕ
  pub digest : DigestValue
  pub quorum : Backed n q honest (λ i. Issued (commit_by i epoch s digest))
  pub batch : BatchOk value Handed digest rs

-- a digest that was offered: with a batch whose requests are vouched for
pub record OfferedOk (value : List ℕ → DigestValue) (honest_client : ℕ → Bool) (Handed : List Request → Type 0) (AskedFor : Statement → Type 0) (d : DigestValue) : Type 0 where
  pub rs : List Request
  pub digest : batch_digest value rs ≡ d
  pub handed : Handed rs
  pub few : length rs ≤ 16
  pub asked : AllByRecursion (λ r. honest_client r.client ≡ true → AskedFor (request_statement r)) rs

-- where a prepared digest comes from
abbrev pub Origin : (List ℕ → DigestValue) → ℕ → ℕ → (ℕ → Bool) → (ℕ → Bool) → (Statement → Type 0) → (List Request → Type 0) → (Statement → Type 0) → ℕ → ℕ → DigestValue → Type 0
Origin value n q honest honest_client Issued Handed AskedFor e s d =
    OfferedOk value honest_client Handed AskedFor d ⊎ ((d ≡ value_of 0) ⊎ ((e* : ℕ) × (e* < e) × Backed n q honest (λ i. Issued (prepare_by i e* s d))))

pub record Full {X : Type 0} (value : List ℕ → DigestValue) (next : X → ℕ → ℕ → ℕ → X) (start : X) (n q self : ℕ) (honest honest_client : ℕ → Bool)
    (Issued : Statement → Type 0) (Handed : List Request → Type 0) (AskedFor : Statement → Type 0) (k : Node X) : Type 0 where
  pub size : k.core.house.n ≡ n
  pub own : k.core.house.own ≡ self
  pub long : Long k.core.table
  pub inv : Inv n q self honest Issued (sketch_of k.core) k.issued
  pub places : (s : ℕ) (d : DigestValue) → filled_of k.core.table s ≡ Some d
      → PlaceOk value honest Issued Handed k.core.view.changing k.core.view.epoch s (place_at k.core.table s) d
  pub bare : (s : ℕ) → in_window k.core.table s ≡ true → (place_at k.core.table s).proposal ≡ None
      → (i : ℕ) (x : Ballot) → get_or (place_at k.core.table s).commits.of i None ≡ Some x → ⊥
  pub count : k.core.delivered ≡ length k.log
  pub log : (j : ℕ) → j < length k.log → DeliveredOk value n q honest Issued Handed (j + 1) (get_or k.log j [])
  pub app : k.app ≡ (delivered next start all_fresh (flat_map (λ rs. rs) k.log)).app
  pub windows : k.core.windows ≡ (delivered next start all_fresh (flat_map (λ rs. rs) k.log)).windows
  pub origin : (e s : ℕ) (d : DigestValue) → Has k.issued (prepare_by self e s d) → Origin value n q honest honest_client Issued Handed AskedFor e s d

-- a controller after a step
abbrev pub grown : {X : Type 0} → Node X → Step X → Node X
grown k s = record { core = s.core; app = s.app; issued = s.issued ++ k.issued; log = k.log ++ s.batches }

-- a refused call leaves it as it was
pub refused : {X : Type 0} (k : Node X) (outbox : List Sealed) (r : Refusal) (e : Effect X) → grown k (called k.core k.app outbox (Some r) e) ≡ k
refused k outbox r e = λ i. record { core = k.core; app = k.app; issued = k.issued; log = append-nil k.log i }
