-- Cases of offer and vote.
use Rattle.std.specs.Prelude.{◌≡◌, ℕ, false, List, [], ◌∷◌, length, take, replicate, Some, None, Err}
use Rattle.wire.specs.declared.records.Sealed.{Sealed}
use Rattle.wire.specs.declared.records.Request.{Request}
use Rattle.wire.specs.Values.{value_of}
use Rattle.wire.specs.Frames.{stored}
use Rattle.seal.specs.Records.{none}
use Rattle.table.specs.Ballots.{no_ballots}
use Rattle.window.specs.Clients.{window_of}
use Rattle.dossier.specs.Cases.{fives, said, forged, prepare, checkpoint}
use Rattle.protocol.specs.declared.records.View.{View}
use Rattle.protocol.specs.declared.records.Core.{Core}
use Rattle.protocol.specs.declared.refusal.Refusal.TheVariants.{Room, Signer, Kind, Epoch, Number, Authority, Seal, Standing, Unproposed, Batch as BadBatch, Request as BadRequest}
use Rattle.protocol.specs.Call.{Step, unsealed}
use Rattle.protocol.specs.Offer.{offered, prepare_of}
use Rattle.protocol.specs.Vote.{voted, commit_of}
use Rattle.cases.specs.Scene.{sum_of, app, plus, itself, outbox, short, ask, asks, batch, proposal, commit, answer, start, delivered_to, in_view, changing_3, ballot, by_one, by_two, by_three, certificate, filled_by, first_place, with_first, with_row, at_16, near_limit, place}
use Rattle.wire.specs.declared.kinds.Kind.TheVariants.{Proposal, Prepare, Checkpoint}

-- OFFER

abbrev pub offer : Core → Sealed → List Request → Step ℕ
offer c p rs = offered fives sum_of c app outbox p rs

-- controller 0, which owns number 1, proposes a batch of one request for it
abbrev pub offer_1 : Step ℕ
offer_1 = offer start (proposal 0 1 1 19) batch

-- what then is
abbrev pub filled_1 : Core
filled_1 = with_first (first_place no_ballots no_ballots None)

-- epoch 1 with the numbers 5 to 8
abbrev pub short_view : View
short_view = record { epoch = 1; changing = false; leaders = 15; first = 5; last = Some 8 }

pub record Offers : Type 0 where
  pub result : offer_1.result ≡ answer 1 0 0 0 0 0
  pub issued : offer_1.issued ≡ prepare_of 0 1 1 (value_of 19) ∷ []
  pub posted : take 2 offer_1.outbox ≡ unsealed (prepare_of 0 1 1 (value_of 19)) ∷ none ∷ []
  pub room_stays : length offer_1.outbox ≡ 400
  pub table : offer_1.core.table ≡ filled_1.table
  pub unchanged : offer_1.app ≡ 100
  -- the empty batch, proposed by controller 1 for number 2
  pub empty : (offer start (proposal 1 1 2 0) []).issued ≡ prepare_of 0 1 2 (value_of 0) ∷ []
  pub empty_known : place (offer start (proposal 1 1 2 0) []).core 2 ≡ filled_by 0 (Some (stored [])) no_ballots
  -- the first and the last number that can be: of the epoch, of the table, of all
  pub first_offered : (offer (in_view short_view start) (proposal 0 1 5 19) batch).result ≡ answer 1 0 0 0 0 0
  pub last_offered : (offer (in_view short_view start) (proposal 3 1 8 0) []).result ≡ answer 1 0 0 0 0 0
  pub last_place : (offer start (proposal 3 1 32 0) []).result ≡ answer 1 0 0 0 0 0
  pub last_number : (offer near_limit (proposal 3 1 1000000000000 0) []).result ≡ answer 1 0 0 0 0 0
  -- sixteen requests
  pub sixteen : (offer start (proposal 0 1 1 784) (asks 16 1)).result ≡ answer 1 0 0 0 0 0
  -- refused, in the order of the checks: 2, 5, 4, 6, 7, 10, 8, 12, 9, 13
  pub no_room : (offered fives sum_of start app short (proposal 0 1 1 19) batch).result ≡ Err Room
  pub no_proposal : (offer start (prepare 0 1 1 19) batch).result ≡ Err Kind
  pub with_held : (offer start (said Proposal 0 1 1 1 19) batch).result ≡ Err Kind
  pub no_controller : (offer start (proposal 4 1 1 19) batch).result ≡ Err Signer
  pub other_epoch : (offer start (proposal 0 2 1 19) batch).result ≡ Err Epoch
  pub changing : (offer (in_view changing_3 start) (proposal 0 3 1 19) batch).result ≡ Err Epoch
  pub no_place : (offer start (proposal 0 1 33 19) batch).result ≡ Err Number
  pub delivered : (offer (delivered_to 1 start) (proposal 0 1 1 19) batch).result ≡ Err Number
  pub stable : (offer at_16 (proposal 3 1 16 0) []).result ≡ Err Number
  pub below_first : (offer (in_view short_view start) (proposal 0 1 1 19) batch).result ≡ Err Number
  pub above_last : (offer (in_view short_view start) (proposal 0 1 9 19) batch).result ≡ Err Number
  pub above_limit : (offer near_limit (proposal 0 1 1000000000001 0) []).result ≡ Err Number
  pub again : (offer filled_1 (proposal 0 1 1 19) batch).result ≡ Err Standing
  pub again_by_other : (offer filled_1 (proposal 1 1 1 19) batch).result ≡ Err Standing
  pub by_other : (offer start (proposal 1 1 1 19) batch).result ≡ Err Authority
  pub other_digest : (offer start (proposal 0 1 1 18) batch).result ≡ Err BadBatch
  pub empty_digest : (offer start (proposal 0 1 1 1) []).result ≡ Err BadBatch
  pub seventeen : (offer start (proposal 0 1 1 323) (replicate 17 (ask 1 10))).result ≡ Err BadBatch
  pub filled_with_0 : (offered fives (λ _. value_of 0) start app outbox (proposal 0 1 1 0) batch).result ≡ Err BadBatch
  pub false_seal : (offer start (forged (proposal 0 1 1 19)) batch).result ≡ Err Seal
  -- a request of no client, outside its window, twice in a batch, in a known batch, in the bucket of another leader, and with a false seal
  pub no_client : (offer start (proposal 0 1 1 51) (record { client = 32; timestamp = 3; payload = 10; seal = 5 } ∷ [])).result ≡ Err (BadRequest 0)
  pub outside : (offer start (proposal 0 1 1 83) (ask 65 10 ∷ [])).result ≡ Err (BadRequest 0)
  pub twice : (offer start (proposal 0 1 1 38) (ask 1 10 ∷ ask 1 10 ∷ [])).result ≡ Err (BadRequest 1)
  pub in_known : (offer filled_1 (proposal 0 1 5 19) batch).result ≡ Err (BadRequest 0)
  pub other_bucket : (offer start (proposal 0 1 1 20) (ask 2 10 ∷ [])).result ≡ Err (BadRequest 0)
  pub forged_request : (offer start (proposal 0 1 1 20) (record { client = 2; timestamp = 1; payload = 10; seal = 6 } ∷ [])).result ≡ Err (BadRequest 0)
  -- a refusal changes nothing
  pub stays : (offer filled_1 (proposal 0 1 1 19) batch).core ≡ filled_1
  pub not_posted : (offer filled_1 (proposal 0 1 1 19) batch).outbox ≡ outbox

-- VOTE

abbrev pub vote : Core → Sealed → Step ℕ
vote c v = voted plus itself fives c app outbox v

-- number 1 is prepared by 0, then by 0 and 1, then by 0, 1 and 2, and then committed by 0 and 1
abbrev pub prepared_1 : Core
prepared_1 = with_first (first_place (by_one 19) no_ballots None)

abbrev pub prepared_2 : Core
prepared_2 = with_first (first_place (by_two 19) no_ballots None)

abbrev pub prepared_3 : Core
prepared_3 = with_first (first_place (by_three 19) no_ballots (Some certificate))

abbrev pub committed_2 : Core
committed_2 = with_first (first_place (by_three 19) (by_two 19) (Some certificate))

-- the third commit
abbrev pub commit_3 : Step ℕ
commit_3 = vote committed_2 (commit 2 1 1 19)

pub record VotesOfEpoch : Type 0 where
  pub first : (vote filled_1 (prepare 0 1 1 19)).result ≡ answer 0 0 0 0 0 0
  pub first_table : (vote filled_1 (prepare 0 1 1 19)).core.table ≡ prepared_1.table
  pub second_table : (vote prepared_1 (prepare 1 1 1 19)).core.table ≡ prepared_2.table
  -- the third prepare makes the certificate and issues a commit; a fourth changes nothing of it
  pub third : (vote prepared_2 (prepare 2 1 1 19)).result ≡ answer 1 0 0 0 0 0
  pub third_issued : (vote prepared_2 (prepare 2 1 1 19)).issued ≡ commit_of 0 1 1 (value_of 19) ∷ []
  pub third_table : (vote prepared_2 (prepare 2 1 1 19)).core.table ≡ prepared_3.table
  pub fourth : (vote prepared_3 (prepare 3 1 1 19)).issued ≡ []
  pub fourth_certificate : (place (vote prepared_3 (prepare 3 1 1 19)).core 1).certificate ≡ Some certificate
  -- of number 1, also after it is delivered
  pub after_delivery : (vote (delivered_to 1 filled_1) (prepare 0 1 1 19)).result ≡ answer 0 0 0 0 0 0
  -- the third commit delivers
  pub first_commit : place (vote prepared_3 (commit 0 1 1 19)).core 1 ≡ first_place (by_three 19) (by_one 19) (Some certificate)
  pub not_yet : (vote prepared_3 (commit 0 1 1 19)).result ≡ answer 0 0 0 0 0 0
  pub two_commits : (vote (with_first (first_place (by_three 19) (by_one 19) (Some certificate))) (commit 1 1 1 19)).result ≡ answer 0 0 0 0 0 0
  pub delivers : commit_3.result ≡ answer 0 0 1 1 1 0
  pub batches : commit_3.batches ≡ batch ∷ []
  pub applied : commit_3.app ≡ 110
  pub delivered : commit_3.core.delivered ≡ 1
  pub marked : (window_of commit_3.core.windows 2).span.base ≡ 1
  pub others_not : (window_of commit_3.core.windows 3).span.base ≡ 0
  -- refused, in the order of the checks: 2, 5, 4, 6, 7, 11, 10, 9
  pub no_room : (voted plus itself fives filled_1 app short (prepare 0 1 1 19)).result ≡ Err Room
  pub no_vote : (vote filled_1 (proposal 0 1 1 19)).result ≡ Err Kind
  pub with_held : (vote filled_1 (said Prepare 0 1 1 1 19)).result ≡ Err Kind
  pub no_controller : (vote filled_1 (prepare 4 1 1 19)).result ≡ Err Signer
  pub other_epoch : (vote filled_1 (prepare 0 2 1 19)).result ≡ Err Epoch
  pub no_place : (vote filled_1 (prepare 0 1 33 19)).result ≡ Err Number
  pub no_proposal : (vote filled_1 (prepare 0 1 2 19)).result ≡ Err Unproposed
  pub other_digest : (vote filled_1 (prepare 0 1 1 18)).result ≡ Err Unproposed
  pub again : (vote prepared_1 (prepare 0 1 1 19)).result ≡ Err Standing
  pub commit_again : (vote committed_2 (commit 1 1 1 19)).result ≡ Err Standing
  pub false_seal : (vote filled_1 (forged (prepare 0 1 1 19))).result ≡ Err Seal

-- checkpoints for 16 with marks 9, 8 and 9 from 0, 1 and 2
abbrev pub three_marks : Core
three_marks = with_row (record { of = ballot 9 ∷ ballot 8 ∷ ballot 9 ∷ replicate 13 None })

-- and 9 from 3
abbrev pub checkpoint_4 : Step ℕ
checkpoint_4 = vote three_marks (checkpoint 3 16 9)

pub record VotesForCheckpoints : Type 0 where
  pub first : (vote start (checkpoint 0 16 9)).result ≡ answer 0 0 0 0 0 0
  -- three checkpoints of which two are equal do not move S, three equal ones do, and those are kept
  pub two_equal : (vote (with_row (record { of = ballot 9 ∷ ballot 8 ∷ replicate 14 None })) (checkpoint 2 16 9)).core.table ≡ three_marks.table
  pub three_equal : checkpoint_4.core.table ≡ at_16.table
  pub result : checkpoint_4.result ≡ answer 0 0 0 0 0 0
  pub delivered : checkpoint_4.core.delivered ≡ 0
  -- the table then is that of 17 to 48
  pub below : (vote at_16 (checkpoint 0 16 9)).result ≡ Err Number
  pub above : (vote at_16 (checkpoint 0 48 9)).result ≡ answer 0 0 0 0 0 0
  -- the last number that there is
  pub last_number : (vote near_limit (checkpoint 0 1000000000000 9)).result ≡ answer 0 0 0 0 0 0
  pub above_limit : (vote near_limit (checkpoint 0 1000000000016 9)).result ≡ Err Number
  -- while the epoch changes checkpoints are taken, and prepares are not
  pub changing : (vote (in_view changing_3 start) (checkpoint 0 16 9)).result ≡ answer 0 0 0 0 0 0
  pub prepare_changing : (vote (in_view changing_3 filled_1) (prepare 0 3 1 19)).result ≡ Err Epoch
  -- refused: no multiple of 16; a second one, also with another mark; an epoch, which a checkpoint does not use
  pub no_multiple : (vote start (checkpoint 0 8 9)).result ≡ Err Number
  pub again : (vote three_marks (checkpoint 1 16 9)).result ≡ Err Standing
  pub with_epoch : (vote start (said Checkpoint 0 1 16 0 9)).result ≡ Err Kind
