-- What came to be marked, and which requests came to be applied.
use Rattle.std.specs.Prelude.{◌≡◌, ℕ, Bool, false, cond, ◌&&◌, ◌||◌, ◌⊎◌, List, [], ◌∷◌, fold, ◌==◌}
use Rattle.wire.specs.declared.records.Request.{Request}
use Rattle.window.specs.declared.window.Window.{Window}
use Rattle.window.specs.declared.windows.Windows.{Windows}
use Rattle.window.specs.Spans.{free}
use Rattle.window.specs.Marked.{after}
use Rattle.window.specs.Clients.{admits, marks}

-- the window after timestamps were marked, one after another
abbrev pub after_all : Window → List ℕ → Window
after_all w ts = fold after w ts

-- those of the timestamps that were free when they came
abbrev pub marked_ever : Window → List ℕ → List ℕ
marked_ever w [] = []
marked_ever w (t ∷ ts) = cond (free w.span t) (t ∷ marked_ever (after w t) ts) (marked_ever (after w t) ts)

-- whether a number stands in a list
abbrev pub listed : ℕ → List ℕ → Bool
listed u [] = false
listed u (t ∷ ts) = u == t || listed u ts

-- the windows after a request: marked if it is admitted
abbrev pub windows_then : Windows → Request → Windows
windows_then ws q = cond (admits ws q.client q.timestamp) (marks ws q.client q.timestamp) ws

-- the windows after requests, one after another
abbrev pub windows_after : Windows → List Request → Windows
windows_after ws qs = fold windows_then ws qs

-- the requests that are applied, in order
abbrev pub served : Windows → List Request → List Request
served ws [] = []
served ws (q ∷ qs) = cond (admits ws q.client q.timestamp) (q ∷ served (marks ws q.client q.timestamp) qs) (served ws qs)

-- whether a client's timestamp is that of one of the requests
abbrev pub names : ℕ → ℕ → List Request → Bool
names client t [] = false
names client t (q ∷ qs) = (client == q.client && t == q.timestamp) || names client t qs

-- the request is one of the list
abbrev pub Stands : Request → List Request → Type 0
Stands q [] = ⊥
Stands q (p ∷ ps) = (p ≡ q) ⊎ Stands q ps

-- the state after requests were applied, one after another
abbrev pub applied_all : {X : Type 0} → (X → ℕ → ℕ → ℕ → X) → X → List Request → X
applied_all next x qs = fold (λ s q. next s q.client q.timestamp q.payload) x qs

-- what stands past the end of a list of requests
abbrev pub no_request : Request
no_request = record { client = 0; timestamp = 0; payload = 0; seal = 0 }
