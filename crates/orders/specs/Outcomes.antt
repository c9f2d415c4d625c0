-- What becomes of an order.
use Rattle.std.specs.Prelude.{ℕ, ◌-◌, cond, ◌||◌, ◌==◌, nat_le, nat_lt}
use Rattle.wire.specs.declared.records.Request.{Request}
use Rattle.window.specs.declared.windows.Windows.{Windows}
use Rattle.window.specs.Clients.{window_of, admits}
use Rattle.orders.specs.declared.outcome.Passed.{Passed}
use Rattle.orders.specs.declared.outcome.Passed.TheVariants.{NoClient, Outside, Marked}
use Rattle.orders.specs.declared.outcome.Outcome.{Outcome}
use Rattle.orders.specs.declared.outcome.Outcome.TheVariants.{Answered, PassedOver}

-- why a request that is not admitted is passed over: there are clients 0 to 31; timestamps are 1 or more, and lie in the 64
-- above the base or, up to the base, were marked
abbrev pub why_passed : Windows → ℕ → ℕ → Passed
why_passed ws client t =
    cond (nat_le client 31)
    (cond (t == 0 || nat_lt 64 (t - (window_of ws client).span.base)) Outside Marked)
    NoClient

-- the code that the application answers with, if the windows admit the request
abbrev pub outcome_of : ℕ → Windows → Request → Outcome
outcome_of code ws q =
    cond (admits ws q.client q.timestamp) (Answered code) (PassedOver (why_passed ws q.client q.timestamp))
