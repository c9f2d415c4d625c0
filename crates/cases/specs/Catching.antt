-- Cases of supply and prove: batches that come later than their votes.
use Rattle.std.specs.Prelude.{◌≡◌, ℕ, List, [], ◌∷◌, replicate, Some, None, Err}
use Rattle.wire.specs.declared.records.Sealed.{Sealed}
use Rattle.wire.specs.declared.records.Request.{Request}
use Rattle.wire.specs.Frames.{stored}
use Rattle.table.specs.Ballots.{no_ballots}
use Rattle.table.specs.Places.{empty_place}
use Rattle.dossier.specs.Cases.{fives, forged, prepare}
use Rattle.protocol.specs.declared.records.Core.{Core}
use Rattle.protocol.specs.declared.refusal.Refusal.TheVariants.{Room, Number, Unproposed, Batch as BadBatch, Record}
use Rattle.protocol.specs.State.{with_table}
use Rattle.protocol.specs.Delivery.{checkpoint_of}
use Rattle.protocol.specs.Call.{Step}
use Rattle.protocol.specs.Supply.{supplied}
use Rattle.protocol.specs.Prove.{proved}
use Rattle.cases.specs.Scene.{sum_of, app, plus, itself, outbox, short, ask, batch, commit, answer, start, delivered_to, in_view, changing_3, by_three, filled_by, with_places, from_16, at_16, place}
use Rattle.cases.specs.Changing.{began_17}

-- SUPPLY

abbrev pub supply : Core → ℕ → List Request → Step ℕ
supply c s rs = supplied plus itself sum_of c app outbox s rs

-- a batch whose digest is 1 + 2 + 1 + 68 + 5 = 77
abbrev pub chosen_batch : List Request
chosen_batch = ask 1 68 ∷ []

-- 77, 0 and 90 were chosen for 17, 18 and 19, and all up to 16 is delivered
abbrev pub waiting : Core
waiting = delivered_to 16 began_17

-- 17 and 18 are committed by 0, 1 and 2, and the batch of 17 is not known
abbrev pub committed_18 : Core
committed_18 =
    delivered_to 16 (in_view began_17.view
    (with_table start (from_16 (filled_by 77 None (by_three 77) ∷ filled_by 0 (Some (stored [])) (by_three 0) ∷ replicate 30 empty_place))))

abbrev pub supply_17 : Step ℕ
supply_17 = supply committed_18 17 chosen_batch

pub record Supplies : Type 0 where
  pub result : (supply waiting 17 chosen_batch).result ≡ answer 0 0 0 0 0 0
  pub known : place (supply waiting 17 chosen_batch).core 17 ≡ filled_by 77 (Some (stored chosen_batch)) no_ballots
  -- what is committed was waiting for the batch, and is delivered with what follows it
  pub delivers : supply_17.result ≡ answer 0 0 17 2 1 0
  pub batches : supply_17.batches ≡ chosen_batch ∷ [] ∷ []
  pub applied : supply_17.app ≡ 168
  pub delivered : supply_17.core.delivered ≡ 18
  -- while the epoch changes, too; and nothing is delivered while D is below S
  pub changing : (supply (in_view changing_3 committed_18) 17 chosen_batch).result ≡ answer 0 0 17 2 1 0
  pub behind : (supply (delivered_to 15 committed_18) 17 chosen_batch).result ≡ answer 0 0 0 0 0 0
  -- refused, in the order of the checks: 2, 7, 11, 12
  pub no_room : (supplied plus itself sum_of waiting app short 17 chosen_batch).result ≡ Err Room
  pub last_place : (supply waiting 48 chosen_batch).result ≡ Err Unproposed
  pub stable : (supply waiting 16 chosen_batch).result ≡ Err Number
  pub no_place : (supply waiting 49 chosen_batch).result ≡ Err Number
  pub free : (supply waiting 20 chosen_batch).result ≡ Err Unproposed
  pub empty_known : (supply waiting 18 []).result ≡ Err Unproposed
  pub other_batch : (supply waiting 17 batch).result ≡ Err BadBatch

-- PROVE

abbrev pub prove : Core → ℕ → List Request → List Sealed → Step ℕ
prove c s rs list = proved plus itself fives sum_of c app outbox s rs list

-- commits of epoch 1 by 0, 1 and 3
abbrev pub commits : ℕ → ℕ → List Sealed
commits s d = commit 0 1 s d ∷ commit 1 1 s d ∷ commit 3 1 s d ∷ []

abbrev pub prove_1 : Step ℕ
prove_1 = prove start 1 batch (commits 1 19)

-- number 2 is filled with the empty batch, and committed
abbrev pub second_committed : Core
second_committed = with_places (empty_place ∷ filled_by 0 (Some (stored [])) (by_three 0) ∷ replicate 30 empty_place)

-- 15 numbers are delivered
abbrev pub prove_16 : Step ℕ
prove_16 = prove (delivered_to 15 start) 16 [] (commits 16 0)

pub record Provings : Type 0 where
  pub result : prove_1.result ≡ answer 0 0 1 1 1 0
  pub batches : prove_1.batches ≡ batch ∷ []
  pub applied : prove_1.app ≡ 110
  pub delivered : prove_1.core.delivered ≡ 1
  pub table_stays : prove_1.core.table ≡ start.table
  -- the same request again is passed over
  pub passed_over : (prove prove_1.core 2 batch (commits 2 19)).result ≡ answer 0 0 2 1 0 1
  pub not_applied : (prove prove_1.core 2 batch (commits 2 19)).app ≡ 100
  -- delivery goes on with the table
  pub goes_on : (prove second_committed 1 batch (commits 1 19)).result ≡ answer 0 0 1 2 1 0
  -- at a multiple of 16 a checkpoint with the mark is issued
  pub checkpoint : prove_16.issued ≡ checkpoint_of 0 16 100 ∷ []
  pub no_checkpoint : (prove (delivered_to 7 start) 8 [] (commits 8 0)).issued ≡ []
  pub checkpoint_result : prove_16.result ≡ answer 1 0 16 1 0 0
  -- also where that number is stable already, and while the epoch changes
  pub stable : (prove (delivered_to 15 at_16) 16 [] (commits 16 0)).issued ≡ checkpoint_of 0 16 100 ∷ []
  pub changing : (prove (in_view changing_3 start) 1 batch (commits 1 19)).result ≡ answer 0 0 1 1 1 0
  -- the last number that there is
  pub last_number : (prove (delivered_to 999999999999 start) 1000000000000 [] (commits 1000000000000 0)).result ≡ answer 1 0 1000000000000 1 0 0
  -- refused, in the order of the checks: 2, 7, 14, 12
  pub no_room : (proved plus itself fives sum_of start app short 1 batch (commits 1 19)).result ≡ Err Room
  pub not_next : (prove start 2 batch (commits 2 19)).result ≡ Err Number
  pub too_high : (prove (delivered_to 1000000000000 start) 1000000000001 [] (commits 1000000000001 0)).result ≡ Err Number
  pub none_at_all : (prove start 1 batch []).result ≡ Err (Record 0)
  pub too_few : (prove start 1 batch (commit 0 1 1 19 ∷ commit 1 1 1 19 ∷ [])).result ≡ Err (Record 2)
  pub too_many : (prove start 1 batch (commit 0 1 1 19 ∷ commit 1 1 1 19 ∷ commit 2 1 1 19 ∷ commit 3 1 1 19 ∷ [])).result ≡ Err (Record 3)
  pub no_commit : (prove start 1 batch (commit 0 1 1 19 ∷ prepare 1 1 1 19 ∷ commit 2 1 1 19 ∷ [])).result ≡ Err (Record 1)
  pub two_epochs : (prove start 1 batch (commit 0 1 1 19 ∷ commit 1 2 1 19 ∷ commit 2 1 1 19 ∷ [])).result ≡ Err (Record 1)
  pub no_epoch : (prove start 1 batch (commit 0 0 1 19 ∷ commit 1 0 1 19 ∷ commit 2 0 1 19 ∷ [])).result ≡ Err (Record 0)
  pub same_signer : (prove start 1 batch (commit 0 1 1 19 ∷ commit 0 1 1 19 ∷ commit 2 1 1 19 ∷ [])).result ≡ Err (Record 1)
  pub false_seal : (prove start 1 batch (commit 0 1 1 19 ∷ commit 1 1 1 19 ∷ forged (commit 2 1 1 19) ∷ [])).result ≡ Err (Record 2)
  pub other_batch : (prove start 1 [] (commits 1 19)).result ≡ Err BadBatch
