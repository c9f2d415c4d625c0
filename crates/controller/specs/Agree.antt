-- What the code of the calls is held against: a step's parts, and parts of the definitions under names of their own.
use Rattle.std.specs.Prelude.{◌≡◌, ℕ, ◌+◌, ◌%◌, ◌≤◌, cond, List, [], ◌∷◌, map, length, Option, Result, ◌==◌}
use Rattle.wire.specs.declared.records.DigestValue.{DigestValue}
use Rattle.wire.specs.declared.records.Statement.{Statement}
use Rattle.wire.specs.declared.records.Sealed.{Sealed}
use Rattle.table.specs.declared.records.Vote.{Vote}
use Rattle.table.specs.declared.records.Table.{Table}
use Rattle.table.specs.Window.{enter_all, move_to}
use Rattle.dossier.specs.declared.parts.Opened.{Opened}
use Rattle.protocol.specs.declared.records.Core.{Core}
use Rattle.protocol.specs.declared.records.Answer.{Answer}
use Rattle.controller.specs.declared.post.Post.{Post}
use Rattle.controller.specs.declared.progress.Progress.{Progress}
use Rattle.protocol.specs.declared.refusal.Refusal.{Refusal}
use Rattle.protocol.specs.State.{size, own, enough, with_view, with_table}
use Rattle.protocol.specs.Change.{turned, given_up, stable_of, helds_from}
use Rattle.protocol.specs.Delivery.{Flow, checkpoint_of}
use Rattle.protocol.specs.Call.{Step, unsealed}
use Rattle.controller.specs.Sending.{Sent}
use Rattle.protocol.specs.Enter.{base_proof, choices, entered_view, prepares_chosen}
use Rattle.wire.specs.declared.kinds.Kind.{Kind}

-- a call's result, and what core, application and outbox are at its end, are those of a step
pub record Agrees {X : Type 0} (s : Step X) (r : Result Answer Refusal) (c : Core) (a : X) (o : List Sealed) : Type 0 where
  pub result : r ≡ s.result
  pub core : c ≡ s.core
  pub app : a ≡ s.app
  pub outbox : o ≡ s.outbox

-- what the calls that deliver nothing make of a core
abbrev pub turn_core : Core → Core
turn_core c = with_view c (turned (size c) c.view) (enter_all c.table [])

-- a statement that holds no epoch
abbrev pub said : Kind → ℕ → ℕ → ℕ → DigestValue → Statement
said kind signer epoch number digest = record { kind = kind; signer = signer; epoch = epoch; number = number; held = 0; digest = digest }

-- DELIVERY

-- the checkpoint that is due at a number
abbrev pub due : ℕ → ℕ → ℕ → List Statement
due signer number mark = cond (number % 16 == 0) (checkpoint_of signer number mark ∷ []) []

-- the core that a delivery leaves
abbrev pub core_after : {X : Type 0} → Core → Flow X → Core
core_after c f = record { house = c.house; view = c.view; table = c.table; delivered = f.delivered; windows = f.windows }

-- the counts after a delivery
abbrev pub progress_after : {X : Type 0} → Progress → Flow X → Progress
progress_after p f = record {
  batches = p.batches + length f.batches;
  applied = p.applied + f.applied;
  passed = p.passed + f.passed;
}

-- core, application, post and counts are those that a delivery leads to, from a core, a post and counts on
pub record Reached {X : Type 0} (c : Core) (post : Post) (p : Progress) (f : Flow X) (c' : Core) (x' : X) (post' : Post) (p' : Progress) : Type 0 where
  pub core : c' ≡ core_after c f
  pub app : x' ≡ f.app
  pub out : Sent post post' (map unsealed f.issued)
  pub progress : p' ≡ progress_after p f

-- counts that leave room for more
abbrev pub Small : Progress → Type 0
Small p = (p.batches ≤ 100) × (p.applied ≤ 1000) × (p.passed ≤ 1000)

-- the answer of a call that issued so many statements and delivered so much after a number
abbrev pub answered : ℕ → ℕ → Progress → Answer
answered issued d p = record {
  issued = issued;
  forwarded = 0;
  first = cond (p.batches == 0) 0 (d + 1);
  batches = p.batches;
  applied = p.applied;
  passed = p.passed;
}

-- counts of a call that has delivered one batch at most
abbrev pub Begun : Progress → Type 0
Begun p = (p.batches ≤ 1) × (p.applied ≤ 16) × (p.passed ≤ 16)

-- what one batch adds at most
abbrev pub More : Progress → Progress → Type 0
More p q = (q.batches ≤ p.batches + 1) × (q.applied ≤ p.applied + 16) × (q.passed ≤ p.passed + 16)

abbrev pub no_progress : Progress
no_progress = record { batches = 0; applied = 0; passed = 0 }

-- an accepted vote: its table, and what it issues
pub record Voted (c : Core) (t : Table) (issued : List Statement) (post : Post) (c' : Core) (post' : Post) : Type 0 where
  pub core : c' ≡ with_table c t
  pub out : Sent post post' (map unsealed issued)

-- a vote as a statement of a kind, an epoch and a number
abbrev pub spoken : Kind → ℕ → ℕ → Vote → Sealed
spoken kind epoch number v = record { statement = said kind v.signer epoch number v.digest; seal = v.seal }

-- what giving up makes of a core, and what it issues
abbrev pub give_up_core : Core → Core
give_up_core c = with_view c (given_up c.view) c.table

abbrev pub told : Core → ℕ → List Statement
told c target = stable_of (own c) target c.table.stable ∷ helds_from (own c) target (c.table.stable + 1) c.table.places

-- the table of an epoch that begins, before its places are entered; what is chosen for them; the core then, and what is issued
abbrev pub enter_table : Core → List Sealed → Opened → Table
enter_table c records o = move_to c.table o.base (base_proof (enough c) records o)

abbrev pub enter_chosen : Core → List Sealed → Opened → List (Option DigestValue)
enter_chosen c records o = choices o ((enter_table c records o).stable + 1) 32

abbrev pub enter_core : Core → Sealed → List Sealed → Opened → Core
enter_core c new records o = with_view c (entered_view new.statement o) (enter_all (enter_table c records o) (enter_chosen c records o))

abbrev pub enter_issued : Core → Sealed → List Sealed → Opened → List Statement
enter_issued c new records o = prepares_chosen (own c) new.statement.epoch ((enter_table c records o).stable + 1) (enter_chosen c records o)
