-- There is one log.
use Rattle.std.specs.Prelude.{◌≡◌, ℕ, ◌<◌, ◌≤◌, Bool, true, not, List, [], ◌∷◌, length, slice_index_or}
use Rattle.std.specs.List.{flat_map}
use Rattle.wire.specs.declared.records.DigestValue.{DigestValue}
use Rattle.wire.specs.declared.records.Request.{Request}
use Rattle.wire.specs.Values.{request_statement}
use Rattle.quorum.specs.declared.house.House.{House}
use Rattle.quorum.specs.Sizes.{allowed, faults}
use Rattle.quorum.specs.Sets.{count}
use Rattle.window.specs.Clients.{all_fresh}
use Rattle.window.specs.Histories.{served}
use Rattle.window.specs.Laws.{Apart}
use Rattle.house.specs.Runs.{Event, Has, Asked, node, delivered_upto, SealsHold, DigestsDiffer, Moment}

module _ {X : Type 0} (value : List ℕ → DigestValue) (next : X → ℕ → ℕ → ℕ → X) (marked : X → ℕ) (start : X) (houses : ℕ → House) where
  -- the batches that controller k has delivered after a run, the first first
  abbrev pub log : ℕ → List Event → List (List Request)
  log k run = (node value next marked start houses k run).log

  -- the requests that it has delivered: those of its batches that were not passed over, in order
  abbrev pub delivered_requests : ℕ → List Event → List Request
  delivered_requests k run = served all_fresh (flat_map (λ rs. rs) (log k run))

  abbrev pub upto : ℕ → List Event → ℕ
  upto k run = delivered_upto value next marked start houses k run

  -- one log, at every two moments of a run
  pub record OneLog (honest honest_client : ℕ → Bool) (run : List Event) : Type 0 where
    -- the log has a batch for each that the answers count
    pub counted : (k : ℕ) (m : List Event) → Moment m run → honest k ≡ true → length (log k m) ≡ upto k m
    -- (a) no two honest controllers deliver different batches at one number
    pub same_batch : (k l s : ℕ) (m o : List Event) → Moment m run → Moment o run → honest k ≡ true → honest l ≡ true
        → s < upto k m → s < upto l o → slice_index_or (log k m) s [] ≡ slice_index_or (log l o) s []
    -- (b) honest controllers that have delivered up to the same number have equal client windows and application states
    pub same_windows : (k l : ℕ) (m o : List Event) → Moment m run → Moment o run → honest k ≡ true → honest l ≡ true → upto k m ≡ upto l o
        → (node value next marked start houses k m).core.windows ≡ (node value next marked start houses l o).core.windows
    pub same_state : (k l : ℕ) (m o : List Event) → Moment m run → Moment o run → honest k ≡ true → honest l ≡ true → upto k m ≡ upto l o
        → (node value next marked start houses k m).app ≡ (node value next marked start houses l o).app
    -- and no client's timestamp is delivered twice
    pub once : (k : ℕ) (m : List Event) → Moment m run → honest k ≡ true → Apart (delivered_requests k m)
    -- (c) every request delivered for an honest client was asked for by it before the last event, so before the call that delivered it
    pub issued_earlier : (k : ℕ) (e : Event) (older : List Event) (r : Request) → Moment (e ∷ older) run → honest k ≡ true → honest_client r.client ≡ true
        → Has (delivered_requests k (e ∷ older)) r → Asked older (request_statement r)

-- for every house of an allowed size, every set of at most f liars, any honest clients, and every run under both premises
abbrev pub OneLogHolds : {X : Type 0} → (List ℕ → DigestValue) → (X → ℕ → ℕ → ℕ → X) → (X → ℕ) → X → Type 0
OneLogHolds value next marked start =
    (n : ℕ) → allowed n ≡ true
    → (honest honest_client : ℕ → Bool) → count (λ i. not (honest i)) n ≤ faults n
    → (houses : ℕ → House) → ((k : ℕ) → honest k ≡ true → ((houses k).n ≡ n) × ((houses k).own ≡ k))
    → (run : List Event) → SealsHold value next marked start houses honest honest_client run → DigestsDiffer value honest run
    → OneLog value next marked start houses honest honest_client run
