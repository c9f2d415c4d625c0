-- A worked case: timestamps 2, 1, 2, 66 and 67 of one client, from base 0.
use Rattle.std.specs.Prelude.{◌≡◌, ℕ, true, false, [], ◌∷◌}
use Rattle.wire.specs.declared.records.Request.{Request}
use Rattle.window.specs.declared.window.Window.{Window}
use Rattle.window.specs.Spans.{free}
use Rattle.window.specs.Marked.{after, fresh}
use Rattle.window.specs.Clients.{all_fresh}
use Rattle.window.specs.Histories.{served}

-- 2 and then 1 gives base 2; then 2 is not free, 66 is, and 67 is not, also after 66
abbrev pub WindowCase : Type 0
WindowCase =
    let w : Window = after (after fresh 2) 1 in
    (w.span.base ≡ 2) × (free w.span 2 ≡ false) × (free w.span 66 ≡ true) × (free (after w 66).span 67 ≡ false)

-- a request of client 5, whose payload and seal do not matter here
abbrev pub at_time : ℕ → Request
at_time t = record { client = 5; timestamp = t; payload = 0; seal = 0 }

-- of the five requests the first, the second and the fourth are applied
abbrev pub DeliveryCase : Type 0
DeliveryCase =
    served all_fresh (at_time 2 ∷ at_time 1 ∷ at_time 2 ∷ at_time 66 ∷ at_time 67 ∷ [])
    ≡ at_time 2 ∷ at_time 1 ∷ at_time 66 ∷ []
