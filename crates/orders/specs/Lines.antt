-- What a line says, by its parts.
use Rattle.std.specs.Prelude.{ℕ, Some, None, Ok, Err, Option, Result}
use Rattle.wire.specs.declared.records.Request.{Request}
use Rattle.orders.specs.declared.line.Wrong.{Wrong}
use Rattle.orders.specs.declared.line.Wrong.TheVariants.{Client, Timestamp}

-- a client's order, or the first part of it that is wrong
abbrev pub request_of : Option ℕ → Option ℕ → Result ℕ Wrong → Result Request Wrong
request_of None t p = Err Client
request_of (Some c) None p = Err Timestamp
request_of (Some c) (Some t) (Err w) = Err w
request_of (Some c) (Some t) (Ok p) = Ok (record { client = c; timestamp = t; payload = p; seal = 0 })
