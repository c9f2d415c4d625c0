-- What a person reads of an answer.
use Rattle.std.specs.Prelude.{ℕ, List, ◌++◌, codes, decimal}
use Rattle.application.specs.declared.codes.NoReject.{NoReject}
use Rattle.application.specs.declared.codes.Reject.{Reject}
use Rattle.application.specs.declared.codes.Reject.TheVariants.{Unknown, BadPlace, BadValue, BadAmount}

abbrev pub reject_text : Reject → List ℕ
reject_text Unknown = codes "no such order"
reject_text BadPlace = codes "no such place, or the same place twice"
reject_text BadValue = codes "a value out of range"
reject_text BadAmount = codes "too little to take, or too full to add"

abbrev pub no_reject_text : NoReject → List ℕ
no_reject_text code = codes "no reject has code " ++ decimal code.0
