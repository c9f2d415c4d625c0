-- The account of the orders: an order is applied, whatever the code, or passed over. Counts stay at their largest.
use Rattle.std.specs.Prelude.{ℕ, ◌+◌, cond, nat_lt}
use Rattle.orders.specs.declared.account.Account.{Account}
use Rattle.orders.specs.declared.outcome.Outcome.{Outcome}
use Rattle.orders.specs.declared.outcome.Outcome.TheVariants.{Answered, PassedOver}

abbrev pub raised : ℕ → ℕ
raised n = cond (nat_lt n 18446744073709551615) (n + 1) n

abbrev pub counted : Account → Outcome → Account
counted a (Answered code) = record { orders = raised a.orders; applied = raised a.applied; passed = a.passed; bad = a.bad }
counted a (PassedOver why) = record { orders = raised a.orders; applied = a.applied; passed = raised a.passed; bad = a.bad }
