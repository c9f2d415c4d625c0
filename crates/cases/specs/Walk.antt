-- One prepare on its way from a frame to a certificate.
use Rattle.std.specs.Prelude.{◌≡◌, ℕ, true, [], ◌∷◌, take, replicate, Some, None, Ok}
use Rattle.wire.specs.Values.{value_of}
use Rattle.wire.specs.Frames.{take_sealed}
use Rattle.table.specs.Ballots.{no_ballots, just_backed, listed}
use Rattle.table.specs.Places.{empty_place}
use Rattle.dossier.specs.Cases.{fives, prepare}
use Rattle.protocol.specs.declared.records.Core.{Core}
use Rattle.protocol.specs.State.{with_table}
use Rattle.protocol.specs.Call.{Step, unsealed}
use Rattle.protocol.specs.Vote.{vote_refusal, now_prepared, commit_of}
use Rattle.cases.specs.Scene.{outbox, answer, start, in_view, by_two, by_three, of_signer, from_16, place}
use Rattle.cases.specs.Basics.{frame}
use Rattle.cases.specs.Ordering.{vote}
use Rattle.cases.specs.Changing.{began_17}

-- controller 0 in epoch 3: number 17 is filled with the digest 77, and 0 and 1 have prepared it
abbrev pub prepared_17 : Core
prepared_17 =
    in_view began_17.view
    (with_table start (from_16 (record { proposal = Some (value_of 77); batch = None; prepares = by_two 77; commits = no_ballots; certificate = None } ∷ replicate 31 empty_place)))

-- the vote that is read
abbrev pub third : Step ℕ
third = vote prepared_17 (prepare 2 3 17 77)

pub record PrepareWalks : Type 0 where
  pub read : take_sealed frame ≡ Ok (prepare 2 3 17 77, [])
  pub accepted : vote_refusal fives prepared_17 outbox (prepare 2 3 17 77) ≡ None
  pub kept : (place third.core 17).prepares ≡ by_three 77
  pub is_quorum : just_backed 4 3 (value_of 77) (by_three 77) ≡ true
  pub now_quorum : now_prepared prepared_17 (prepare 2 3 17 77) ≡ true
  pub certified : (place third.core 17).certificate ≡ Some (record { epoch = 3; digest = value_of 77; prepares = listed (of_signer 77 0 ∷ of_signer 77 1 ∷ of_signer 77 2 ∷ []) })
  pub issued : third.issued ≡ commit_of 0 3 17 (value_of 77) ∷ []
  pub posted : take 1 third.outbox ≡ unsealed (commit_of 0 3 17 (value_of 77)) ∷ []
  pub result : third.result ≡ answer 1 0 0 0 0 0
