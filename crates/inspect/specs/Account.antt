-- The account of the lines: how many, frames by kind, faults, lines that were no hexadecimal. Counts stay at their largest.
use Rattle.std.specs.Prelude.{ℕ, ◌+◌, cond, Ok, Err, Result, nat_lt, slice_index, slice_set}
use Rattle.wire.specs.Kinds.{byte_of}
use Rattle.wire.specs.declared.faults.FrameFault.{FrameFault}
use Rattle.inspect.specs.declared.account.Account.{Account}
use Rattle.inspect.specs.declared.frame.Frame.{Frame}
use Rattle.inspect.specs.declared.frame.Frame.TheVariants.{Statement, Requests}

-- the row in which a frame is counted: the byte of its kind, 9 for a batch, 0 for a fault
abbrev pub row_of : Result Frame FrameFault → ℕ
row_of (Ok (Statement s)) = byte_of s.statement.kind
row_of (Ok (Requests b)) = 9
row_of (Err f) = 0

abbrev pub raised : ℕ → ℕ
raised n = cond (nat_lt n 18446744073709551615) (n + 1) n

abbrev pub counted : Account → Result Frame FrameFault → Account
counted a f =
    cond (nat_lt (row_of f) 10) (record { lines = a.lines; unread = a.unread; rows = slice_set a.rows (row_of f) (raised (slice_index a.rows (row_of f))) }) a
