-- Cases of sizes, leaders, client windows, frames, the dossier and the valves.
use Rattle.std.specs.Prelude.{◌≡◌, ℕ, true, false, List, [], ◌∷◌, ◌++◌, map, length, take, Some, None, Ok, Err, Option, Result, slice_set}
use Rattle.wire.specs.declared.faults.FrameFault.{FrameFault}
use Rattle.wire.specs.Values.{value_of}
use Rattle.wire.specs.Frames.{write_sealed, read_sealed, read_batch}
use Rattle.quorum.specs.Sizes.{faults, quorum, no_house}
use Rattle.window.specs.declared.window.Window.{Window}
use Rattle.window.specs.Spans.{free}
use Rattle.window.specs.Marked.{after, fresh}
use Rattle.window.specs.Clients.{all_fresh}
use Rattle.window.specs.Histories.{served}
use Rattle.valves.specs.Valves.{account_at, plant_of}
use Rattle.valves.specs.Cases.{to_100}
use Rattle.dossier.specs.Cases.{prepare, dossier, judged, seen}
use Rattle.protocol.specs.declared.records.View.{View}
use Rattle.protocol.specs.Leaders.{position, owner_position, owns, bucket_position, in_bucket, primary}
use Rattle.cases.specs.Scene.{ask}

-- of sixteen controllers five may lie and eleven are a quorum; no house has six, and none of sixteen has a controller 16
pub record SizesOfHouses : Type 0 where
  pub faults_of_16 : faults 16 ≡ 5
  pub quorum_of_16 : quorum 16 ≡ 11
  pub sixteen : no_house 16 15 ≡ false
  pub no_six : no_house 6 0 ≡ true
  pub no_controller : no_house 16 16 ≡ true

-- 1 and 3 lead epoch 5 from number 33 on
abbrev pub two_lead : View
two_lead = record { epoch = 5; changing = false; leaders = 10; first = 33; last = None }

-- number 36 and, there, bucket 10 belong to position 1, which is controller 3
pub record LeadersOfEpoch : Type 0 where
  pub at_position : owner_position 4 two_lead 36 ≡ 1
  pub third_at : position 10 3 ≡ 1
  pub third_owns : owns 4 two_lead 36 3 ≡ true
  pub first_does_not : owns 4 two_lead 36 1 ≡ false
  pub second_does_not : owns 4 two_lead 36 2 ≡ false
  pub bucket_at : bucket_position 4 two_lead 36 10 ≡ 1
  pub bucket_in : in_bucket 4 two_lead 36 10 ≡ true
  pub bucket_out : in_bucket 4 two_lead 35 10 ≡ false
  pub primary_of_5 : primary 4 5 ≡ 1

-- from base 0, timestamp 2 and then 1 give base 2
abbrev pub two_and_one : Window
two_and_one = after (after fresh 2) 1

-- then 2 is not free, 66 is, and 67 is not, also after 66; of the five requests the first, the second and the fourth are applied
pub record WindowOfClient : Type 0 where
  pub base : two_and_one.span.base ≡ 2
  pub again : free two_and_one.span 2 ≡ false
  pub last : free two_and_one.span 66 ≡ true
  pub outside : free (after two_and_one 66).span 67 ≡ false
  pub applied : served all_fresh (ask 2 0 ∷ ask 1 0 ∷ ask 2 0 ∷ ask 66 0 ∷ ask 67 0 ∷ []) ≡ ask 2 0 ∷ ask 1 0 ∷ ask 66 0 ∷ []

-- the frame of the prepare by 2 in epoch 3 for number 17, digest 77, under the seal 5
abbrev pub frame : List ℕ
frame =
    0x00 ∷ 0x23 ∷ 0x01 ∷ 0x03 ∷ 0x02
    ∷ 0x00 ∷ 0x00 ∷ 0x00 ∷ 0x03
    ∷ 0x00 ∷ 0x00 ∷ 0x00 ∷ 0x00 ∷ 0x00 ∷ 0x00 ∷ 0x00 ∷ 0x11
    ∷ 0x00 ∷ 0x00 ∷ 0x00 ∷ 0x00
    ∷ 0x00 ∷ 0x00 ∷ 0x00 ∷ 0x00 ∷ 0x00 ∷ 0x00 ∷ 0x00 ∷ 0x4d
    ∷ 0x00 ∷ 0x00 ∷ 0x00 ∷ 0x00 ∷ 0x00 ∷ 0x00 ∷ 0x00 ∷ 0x05
    ∷ []

-- the place at which bytes are no frame of a statement, and of a batch
abbrev pub fault_of : {X : Type 0} → Result X FrameFault → Option ℕ
fault_of (Ok x) = None
fault_of (Err f) = Some f.place

abbrev pub no_statement : List ℕ → Option ℕ
no_statement bytes = fault_of (read_sealed bytes)

abbrev pub no_batch : List ℕ → Option ℕ
no_batch bytes = fault_of (read_batch bytes)

-- the frame cut to a length
abbrev pub cut_to : ℕ → Option ℕ
cut_to k = no_statement (take k frame)

pub record FrameOfPrepare : Type 0 where
  pub written : write_sealed (prepare 2 3 17 77) ≡ Ok frame
  pub reads_back : read_sealed frame ≡ Ok (prepare 2 3 17 77)
  -- cut short: the version is missing, then the kind, then a byte of the rest
  pub cut_0_to_3 : map cut_to (0 ∷ 1 ∷ 2 ∷ 3 ∷ []) ≡ map Some (2 ∷ 2 ∷ 2 ∷ 3 ∷ [])
  pub cut_4_to_16 : map cut_to (4 ∷ 5 ∷ 6 ∷ 7 ∷ 8 ∷ 9 ∷ 10 ∷ 11 ∷ 12 ∷ 13 ∷ 14 ∷ 15 ∷ 16 ∷ []) ≡ map Some (4 ∷ 5 ∷ 6 ∷ 7 ∷ 8 ∷ 9 ∷ 10 ∷ 11 ∷ 12 ∷ 13 ∷ 14 ∷ 15 ∷ 16 ∷ [])
  pub cut_17_to_28 : map cut_to (17 ∷ 18 ∷ 19 ∷ 20 ∷ 21 ∷ 22 ∷ 23 ∷ 24 ∷ 25 ∷ 26 ∷ 27 ∷ 28 ∷ []) ≡ map Some (17 ∷ 18 ∷ 19 ∷ 20 ∷ 21 ∷ 22 ∷ 23 ∷ 24 ∷ 25 ∷ 26 ∷ 27 ∷ 28 ∷ [])
  pub cut_29_to_36 : map cut_to (29 ∷ 30 ∷ 31 ∷ 32 ∷ 33 ∷ 34 ∷ 35 ∷ 36 ∷ []) ≡ map Some (29 ∷ 30 ∷ 31 ∷ 32 ∷ 33 ∷ 34 ∷ 35 ∷ 36 ∷ [])
  -- one byte wrong, or one too many
  pub version : no_statement (slice_set frame 2 2) ≡ Some 2
  pub kind : no_statement (slice_set frame 3 9) ≡ Some 3
  pub long : no_statement (slice_set frame 1 36) ≡ Some 0
  pub trailing : no_statement (frame ++ 0 ∷ []) ≡ Some 0
  pub count : no_batch (0 ∷ 3 ∷ 1 ∷ 9 ∷ 17 ∷ []) ≡ Some 4
  pub empty_batch : no_batch (0 ∷ 3 ∷ 1 ∷ 9 ∷ 0 ∷ []) ≡ None

-- n = 4, epoch 3, stable numbers 16, 16, 0 from 0, 1, 3: 92 records; 77, 0 and 90 are chosen for 17, 18 and 19, and 20 is free
pub record DossierOfEpoch3 : Type 0 where
  pub records : length dossier ≡ 92
  pub accepted : seen (judged dossier) ≡ Ok (record { base = 16; mark = value_of 9; last = 19; choices = None ∷ Some (value_of 77) ∷ Some (value_of 0) ∷ Some (value_of 90) ∷ None ∷ [] })
  pub missing : judged (take 91 dossier) ≡ Err 91

-- client 2 opens valve 7 to 250, then to 100
pub record ValveOpenedTwice : Type 0 where
  pub account : account_at to_100 2 ≡ Some 9600
  pub plant : plant_of to_100 ≡ 400
