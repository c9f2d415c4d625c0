-- Delivery: each next number above the stable one that is committed with a known batch.
use Rattle.std.specs.Prelude.{ℕ, zero, suc, ◌+◌, ◌%◌, cond, List, [], ◌∷◌, ◌++◌, Some, None, Option, ◌==◌}
use Rattle.wire.specs.declared.records.DigestValue.{DigestValue}
use Rattle.wire.specs.declared.records.Statement.{Statement}
use Rattle.wire.specs.declared.records.Request.{Request}
use Rattle.wire.specs.declared.records.Batch.{Batch}
use Rattle.wire.specs.Values.{value_of}
use Rattle.wire.specs.Frames.{requests_of}
use Rattle.table.specs.declared.records.Place.{Place}
use Rattle.table.specs.declared.records.Table.{Table}
use Rattle.table.specs.Ballots.{backed}
use Rattle.table.specs.Window.{in_window, place_at}
use Rattle.window.specs.declared.windows.Windows.{Windows}
use Rattle.window.specs.Deliveries.{delivered}
use Rattle.protocol.specs.declared.records.Core.{Core}
use Rattle.protocol.specs.State.{size, own, enough}
use Rattle.wire.specs.declared.kinds.Kind.TheVariants.{Checkpoint}

-- the batch of a place that is committed: a quorum of commits for what it is filled with
abbrev pub known : Option Batch → Option (List Request)
known None = None
known (Some b) = Some (requests_of b)

abbrev pub committed_batch : ℕ → ℕ → Option DigestValue → Place → Option (List Request)
committed_batch n q None p = None
committed_batch n q (Some d) p = cond (backed n q d p.commits) (known p.batch) None

-- the batch that can be delivered after the number d
abbrev pub ready : ℕ → ℕ → Table → ℕ → Option (List Request)
ready n q t d = cond (in_window t (d + 1)) (committed_batch n q (place_at t (d + 1)).proposal (place_at t (d + 1))) None

-- what a controller says of a number that it has delivered
abbrev pub checkpoint_of : ℕ → ℕ → ℕ → Statement
checkpoint_of signer number mark = record { kind = Checkpoint; signer = signer; epoch = 0; number = number; held = 0; digest = value_of mark }

-- how far a delivery has come: what was issued, which batches were delivered, and how many requests
pub record Flow (X : Type 0) : Type 0 where
  pub delivered : ℕ
  pub windows : Windows
  pub app : X
  pub issued : List Statement
  pub batches : List (List Request)
  pub applied : ℕ
  pub passed : ℕ

-- where there is a batch it goes on from there
abbrev pub onto : {X : Type 0} → Flow X → (List Request → Flow X) → Option (List Request) → Flow X
onto f go None = f
onto f go (Some rs) = go rs

module _ {X : Type 0} (next : X → ℕ → ℕ → ℕ → X) (marked : X → ℕ) where
  -- one batch: its requests go to windows and application, and every 16 numbers a checkpoint is issued
  unfoldable pub deliver_one : ℕ → Flow X → List Request → Flow X
  deliver_one signer f rs =
      let c = delivered next f.app f.windows rs in
      let number = f.delivered + 1 in
      record {
        delivered = number;
        windows = c.windows;
        app = c.app;
        issued = f.issued ++ cond (number % 16 == 0) (checkpoint_of signer number (marked c.app) ∷ []) [];
        batches = f.batches ++ rs ∷ [];
        applied = f.applied + c.applied;
        passed = f.passed + c.passed;
      }

  -- so many batches at most
  unfoldable pub deliver_ready : ℕ → Core → Flow X → Flow X
  deliver_ready zero c f = f
  deliver_ready (suc k) c f =
      onto f (λ rs. deliver_ready k c (deliver_one (own c) f rs)) (ready (size c) (enough c) c.table f.delivered)

  -- nothing delivered yet, by a call that has issued some statements
  abbrev pub begin : Core → X → List Statement → Flow X
  begin c x issued = record { delivered = c.delivered; windows = c.windows; app = x; issued = issued; batches = []; applied = 0; passed = 0 }
