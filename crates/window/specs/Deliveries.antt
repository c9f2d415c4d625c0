-- What the delivery of requests does to an application and the windows.
use Rattle.std.specs.Prelude.{ℕ, ◌+◌, cond, List, fold}
use Rattle.wire.specs.declared.records.Request.{Request}
use Rattle.window.specs.declared.windows.Windows.{Windows}
use Rattle.window.specs.Clients.{admits, marks}

-- an application, the windows, and how many requests were applied and passed over
pub record Course (X : Type 0) : Type 0 where
  pub app : X
  pub windows : Windows
  pub applied : ℕ
  pub passed : ℕ

module _ {X : Type 0} (next : X → ℕ → ℕ → ℕ → X) where
  abbrev pub applies : Course X → Request → Course X
  applies s q = record { app = next s.app q.client q.timestamp q.payload; windows = marks s.windows q.client q.timestamp; applied = s.applied + 1; passed = s.passed }

  abbrev pub passes : Course X → Request → Course X
  passes s q = record { app = s.app; windows = s.windows; applied = s.applied; passed = s.passed + 1 }

  -- a request is applied if the windows admit it, and else passed over
  abbrev pub taken : Course X → Request → Course X
  taken s q = cond (admits s.windows q.client q.timestamp) (applies s q) (passes s q)

  -- one request after another
  abbrev pub delivered : X → Windows → List Request → Course X
  delivered x ws qs = fold taken (record { app = x; windows = ws; applied = 0; passed = 0 }) qs
