-- How an order is answered. The codes are tried in this order, and any but `done` changes nothing.
use Rattle.std.specs.Prelude.{◌≡◌, ◌≢◌, ℕ, Ok, Err, Result, MatchResult}
use Rattle.application.specs.declared.codes.NoReject.{NoReject}
use Rattle.application.specs.declared.codes.Reject.{Reject}
use Rattle.application.specs.declared.codes.Reject.TheVariants.{Unknown, BadPlace, BadValue, BadAmount}

-- the order is carried out
abbrev pub done : ℕ
done = 0

-- no such order, or a byte that the order does not use is not 0
abbrev pub unknown : ℕ
unknown = 1

-- a place that does not exist, the same place twice, or no such client
abbrev pub bad_place : ℕ
bad_place = 2

-- a value to set is out of range
abbrev pub bad_value : ℕ
bad_value = 3

-- too little to take, or too full to add
abbrev pub bad_amount : ℕ
bad_amount = 4

-- the code of a reject
abbrev pub reject_code : Reject → ℕ
reject_code Unknown = unknown
reject_code BadPlace = bad_place
reject_code BadValue = bad_value
reject_code BadAmount = bad_amount

-- the code of an answer
abbrev pub answer_code : Result Unit Reject → ℕ
answer_code (Ok u) = done
answer_code (Err r) = reject_code r

-- the answer is the reject with this code, or there is none
abbrev pub Decodes : ℕ → Result Reject NoReject → Type 0
Decodes code r = MatchResult r (λ reject. reject_code reject ≡ code) (λ e. (e.0 ≡ code) × ((reject : Reject) → reject_code reject ≢ code))
