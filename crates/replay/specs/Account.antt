-- The account of the calls. Counts stay at their largest.
use Rattle.std.specs.Prelude.{ℕ, ◌+◌, min, Ok, Err, Result}
use Rattle.protocol.specs.declared.records.Answer.{Answer}
use Rattle.protocol.specs.declared.refusal.Refusal.{Refusal}
use Rattle.replay.specs.declared.account.Account.{Account}

abbrev pub more : ℕ → ℕ → ℕ
more a b = min (a + b) 18446744073709551615

abbrev pub counted : Account → Result Answer Refusal → Account
counted a (Ok x) = record {
  calls = more a.calls 1;
  accepted = more a.accepted 1;
  refused = a.refused;
  batches = more a.batches x.batches;
  applied = more a.applied x.applied;
  passed = more a.passed x.passed;
}
counted a (Err e) = record {
  calls = more a.calls 1;
  accepted = a.accepted;
  refused = more a.refused 1;
  batches = a.batches;
  applied = a.applied;
  passed = a.passed;
}
