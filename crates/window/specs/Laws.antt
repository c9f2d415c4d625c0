-- What holds of windows and of deliveries, whatever comes.
use Rattle.std.specs.Prelude.{◌≡◌, ℕ, ◌+◌, ◌<◌, ◌≤◌, true, false, ◌||◌, List, ◌++◌, length, ◌==◌, ◌≢◌, slice_index_or}
use Rattle.wire.specs.declared.records.Request.{Request}
use Rattle.window.specs.declared.window.Window.{Window}
use Rattle.window.specs.declared.windows.Windows.{Windows}
use Rattle.window.specs.Spans.{free, seen}
use Rattle.window.specs.Marked.{after, fresh}
use Rattle.window.specs.Clients.{all_fresh, window_of}
use Rattle.window.specs.Deliveries.{Course, delivered}
use Rattle.window.specs.Histories.{after_all, marked_ever, listed, windows_after, served, names, Stands, no_request, applied_all}

-- a mark adds the timestamp to those seen, and no other
abbrev pub MarkAdds : Type 0
MarkAdds = (w : Window) (t u : ℕ) → free w.span t ≡ true → seen (after w t).span u ≡ (u == t || seen w.span u)

-- a free timestamp was not seen
abbrev pub FreeUnseen : Type 0
FreeUnseen = (w : Window) (t : ℕ) → free w.span t ≡ true → seen w.span t ≡ false

-- marking a timestamp that is not free changes nothing
abbrev pub ElseUnchanged : Type 0
ElseUnchanged = (w : Window) (t : ℕ) → free w.span t ≡ false → after w t ≡ w

-- the timestamps up to the base and the marked ones are exactly those that were ever marked
abbrev pub SeenMarked : Type 0
SeenMarked = (ts : List ℕ) (u : ℕ) → 1 ≤ u → seen (after_all fresh ts).span u ≡ listed u (marked_ever fresh ts)

-- there is a window for each of the 32 clients
abbrev pub Full : Windows → Type 0
Full ws = length ws.clients ≡ 32

-- new windows are full, and stay so
abbrev pub NewFull : Type 0
NewFull = Full all_fresh

abbrev pub StaysFull : Type 0
StaysFull = (ws : Windows) (qs : List Request) → Full ws → Full (windows_after ws qs)

-- no two of the requests have both client and timestamp equal
abbrev pub Apart : List Request → Type 0
Apart qs = (i j : ℕ) → i < j → j < length qs → (slice_index_or qs i no_request).client ≡ (slice_index_or qs j no_request).client → (slice_index_or qs i no_request).timestamp ≢ (slice_index_or qs j no_request).timestamp

-- no client's timestamp is applied twice
abbrev pub ServedOnce : Type 0
ServedOnce = (ws : Windows) (qs : List Request) → Full ws → Apart (served ws qs)

-- what is applied stands in the list
abbrev pub ServedStands : Type 0
ServedStands = (ws : Windows) (qs : List Request) (q : Request) → Stands q (served ws qs) → Stands q qs

-- what is applied is of one of the 32 clients, at a timestamp from 1 to 2 ^ 32 − 1
abbrev pub ServedRanges : Type 0
ServedRanges =
    (ws : Windows) (qs : List Request) (q : Request) → Stands q (served ws qs)
    → (q.client ≤ 31) × (1 ≤ q.timestamp) × (q.timestamp ≤ 4294967295)

-- what is seen of a client afterwards is what was seen before and what was applied
abbrev pub SeenGrows : Type 0
SeenGrows =
    (ws : Windows) (qs : List Request) → Full ws → (client u : ℕ)
    → seen (window_of (windows_after ws qs) client).span u ≡ (names client u (served ws qs) || seen (window_of ws client).span u)

-- from new windows the timestamps up to a client's base and the marked ones are exactly those applied
abbrev pub SeenServed : Type 0
SeenServed =
    (qs : List Request) (client u : ℕ) → 1 ≤ u
    → seen (window_of (windows_after all_fresh qs) client).span u ≡ names client u (served all_fresh qs)

-- of two lists the second is judged by the windows that the first leaves
abbrev pub ServedJoins : Type 0
ServedJoins =
    (ws : Windows) (xs ys : List Request)
    → (served ws (xs ++ ys) ≡ served ws xs ++ served (windows_after ws xs) ys)
    × (windows_after ws (xs ++ ys) ≡ windows_after (windows_after ws xs) ys)

-- a delivery is what its served requests do: the state is theirs, the windows are those after all, and each request counts once
pub record Serves {X : Type 0} (next : X → ℕ → ℕ → ℕ → X) (x : X) (ws : Windows) (qs : List Request) : Type 0 where
  pub app : (delivered next x ws qs).app ≡ applied_all next x (served ws qs)
  pub windows : (delivered next x ws qs).windows ≡ windows_after ws qs
  pub applied : (delivered next x ws qs).applied ≡ length (served ws qs)
  pub counted : (delivered next x ws qs).applied + (delivered next x ws qs).passed ≡ length qs

abbrev pub Delivers : {X : Type 0} → (X → ℕ → ℕ → ℕ → X) → Type 0
Delivers {X} next = (x : X) (ws : Windows) (qs : List Request) → Serves next x ws qs

-- a delivery that goes on where another stopped
abbrev pub resumed : {X : Type 0} → (X → ℕ → ℕ → ℕ → X) → Course X → List Request → Course X
resumed {X} next s qs =
    let d : Course X = delivered next s.app s.windows qs in
    record { app = d.app; windows = d.windows; applied = s.applied + d.applied; passed = s.passed + d.passed }

-- delivering two lists as one is delivering the first and then the second
abbrev pub DeliveryJoins : {X : Type 0} → (X → ℕ → ℕ → ℕ → X) → Type 0
DeliveryJoins {X} next =
    (x : X) (ws : Windows) (xs ys : List Request)
    → delivered next x ws (xs ++ ys) ≡ resumed next (delivered next x ws xs) ys
