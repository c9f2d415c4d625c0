-- Cases of give up, enter and turn.
use Rattle.std.specs.Prelude.{◌≡◌, ℕ, true, false, List, [], ◌∷◌, ◌++◌, take, drop, replicate, Some, None, Err}
use Rattle.wire.specs.declared.records.Sealed.{Sealed}
use Rattle.wire.specs.Values.{value_of}
use Rattle.wire.specs.Frames.{stored}
use Rattle.table.specs.Ballots.{no_votes, no_ballots, listed}
use Rattle.table.specs.Places.{empty_place}
use Rattle.dossier.specs.Cases.{fives, said, forged, prepare, checkpoint, stable, held, backing, three_from, dossier}
use Rattle.protocol.specs.declared.records.Core.{Core}
use Rattle.protocol.specs.declared.refusal.Refusal.TheVariants.{Room, Signer, Kind, Epoch, Number, Authority, Seal, Record, Unfinished, LastEpoch}
use Rattle.protocol.specs.State.{with_table}
use Rattle.protocol.specs.Call.{Step}
use Rattle.protocol.specs.Offer.{prepare_of}
use Rattle.protocol.specs.Change.{stable_of, held_of, gave_up, took_turn}
use Rattle.protocol.specs.Enter.{entered}
use Rattle.cases.specs.Scene.{app, outbox, short, proposal, answer, start, delivered_to, in_view, changing_3, last_view, by_two, by_three, of_signer, certificate, filled_by, first_place, with_places, with_first, from_16, at_16, place}
use Rattle.cases.specs.Ordering.{vote, prepared_3}
use Rattle.wire.specs.declared.kinds.Kind.TheVariants.{New}

-- GIVE UP

abbrev pub give_up : Core → Step ℕ
give_up c = gave_up c app outbox

-- with a certificate for number 1, and with the stable number 16
abbrev pub leave_1 : Step ℕ
leave_1 = give_up prepared_3

abbrev pub leave_16 : Step ℕ
leave_16 = give_up at_16

-- with certificates for the numbers 1 and 2, of which 2 has the digest 0
abbrev pub two_certified : Core
two_certified =
    with_places (first_place (by_three 19) no_ballots (Some certificate)
    ∷ record { proposal = Some (value_of 0); batch = Some (stored []); prepares = by_three 0; commits = no_ballots; certificate = Some (record { epoch = 1; digest = value_of 0; prepares = listed (of_signer 0 0 ∷ of_signer 0 1 ∷ of_signer 0 2 ∷ []) }) }
    ∷ replicate 30 empty_place)

pub record GiveUps : Type 0 where
  pub result : leave_1.result ≡ answer 33 3 0 0 0 0
  pub issued : take 3 leave_1.issued ≡ stable_of 0 2 0 ∷ held_of 0 2 1 1 (value_of 19) ∷ held_of 0 2 2 0 (value_of 0) ∷ []
  pub last_issued : drop 32 leave_1.issued ≡ held_of 0 2 32 0 (value_of 0) ∷ []
  pub forwarded : take 3 (drop 33 leave_1.outbox) ≡ prepare 0 1 1 19 ∷ prepare 1 1 1 19 ∷ prepare 2 1 1 19 ∷ []
  pub view : leave_1.core.view ≡ record { epoch = 2; changing = true; leaders = 15; first = 1; last = None }
  pub table_stays : leave_1.core.table ≡ prepared_3.table
  -- number by number, and a certificate for the empty batch is one
  pub two_issued : take 3 (give_up two_certified).issued ≡ stable_of 0 2 0 ∷ held_of 0 2 1 1 (value_of 19) ∷ held_of 0 2 2 1 (value_of 0) ∷ []
  pub two_forwarded : take 6 (drop 33 (give_up two_certified).outbox) ≡ prepare 0 1 1 19 ∷ prepare 1 1 1 19 ∷ prepare 2 1 1 19 ∷ prepare 0 1 2 0 ∷ prepare 1 1 2 0 ∷ prepare 2 1 2 0 ∷ []
  -- from the stable number 16 on: its checkpoints are forwarded
  pub result_16 : leave_16.result ≡ answer 33 3 0 0 0 0
  pub issued_16 : take 2 leave_16.issued ≡ stable_of 0 2 16 ∷ held_of 0 2 17 0 (value_of 0) ∷ []
  pub forwarded_16 : take 3 (drop 33 leave_16.outbox) ≡ checkpoint 0 16 9 ∷ checkpoint 2 16 9 ∷ checkpoint 3 16 9 ∷ []
  -- again while the epoch changes
  pub again : (give_up leave_1.core).core.view ≡ changing_3
  -- refused, in the order of the checks: 2, 16
  pub no_room : (gave_up start app short).result ≡ Err Room
  pub last_epoch : (give_up (in_view last_view start)).result ≡ Err LastEpoch

-- ENTER

abbrev pub enter : Core → Sealed → List Sealed → Step ℕ
enter c new records = entered fives c app outbox new records

-- a new statement for epoch 3, whose primary is controller 3: the base h and a leader set
abbrev pub new : ℕ → ℕ → Sealed
new h leaders = said New 3 3 h 0 leaders

-- 0, 1 and 3 are to lead from 17 on, by the dossier of 92 records
abbrev pub left_16 : Core
left_16 = in_view changing_3 at_16

abbrev pub enter_16 : Step ℕ
enter_16 = enter left_16 (new 16 11) dossier

-- what then is: 17, 18 and 19 are filled with 77, 0 and 90, and of these the empty batch is known
abbrev pub began_17 : Core
began_17 =
    in_view (record { epoch = 3; changing = false; leaders = 11; first = 17; last = Some 48 })
    (with_table start (from_16 (filled_by 77 None no_ballots ∷ filled_by 0 (Some (stored [])) no_ballots ∷ filled_by 90 None no_ballots ∷ replicate 29 empty_place)))

-- a dossier with base 0 in which 0 and 1 hold the certificate for number 1; 1, 2 and 3 are to lead
abbrev pub carrying : List Sealed
carrying =
    stable 0 0 ∷ stable 1 0 ∷ stable 2 0 ∷ held 0 1 1 19 ∷ held 1 1 1 19 ∷ held 2 1 0 0 ∷ (backing 1 1 19 ++ three_from 31 2)

abbrev pub enter_1 : Step ℕ
enter_1 = enter (in_view changing_3 prepared_3) (new 0 14) carrying

abbrev pub began_1 : Core
began_1 =
    in_view (record { epoch = 3; changing = false; leaders = 14; first = 1; last = Some 32 })
    (with_first (first_place no_ballots no_ballots (Some certificate)))

-- after which 0 and 1 prepare again, in epoch 3
abbrev pub prepared_again : Core
prepared_again = in_view began_1.view (with_first (first_place (by_two 19) no_ballots (Some certificate)))

-- a controller whose stable number is above the base
abbrev pub at_32 : Core
at_32 = with_table start (record { stable = 32; proof = no_votes; rows = no_ballots ∷ no_ballots ∷ []; places = replicate 32 empty_place })

pub record Entries : Type 0 where
  pub result : enter_16.result ≡ answer 3 0 0 0 0 0
  pub issued : enter_16.issued ≡ prepare_of 0 3 17 (value_of 77) ∷ prepare_of 0 3 18 (value_of 0) ∷ prepare_of 0 3 19 (value_of 90) ∷ []
  pub view : enter_16.core.view ≡ began_17.view
  -- h = S: the own checkpoints stay
  pub table : enter_16.core.table ≡ began_17.table
  -- h above S: S rises, with the dossier's checkpoints
  pub rises : (enter start (new 16 11) dossier).core.table.stable ≡ 16
  pub rises_by : (enter start (new 16 11) dossier).core.table.proof ≡ listed (of_signer 9 0 ∷ of_signer 9 1 ∷ of_signer 9 2 ∷ [])
  -- h below S: S stays, and what is chosen up to it is passed by
  pub stays : (enter at_32 (new 16 11) dossier).core.table.stable ≡ 32
  pub passed_by : (enter at_32 (new 16 11) dossier).result ≡ answer 0 0 0 0 0 0
  pub from_base : (enter at_32 (new 16 11) dossier).core.view ≡ began_17.view
  -- a batch with the chosen digest stays, and so does the certificate; the votes go
  pub one_chosen : enter_1.issued ≡ prepare_of 0 3 1 (value_of 19) ∷ []
  pub carried : place enter_1.core 1 ≡ first_place no_ballots no_ballots (Some certificate)
  pub carried_view : enter_1.core.view ≡ began_1.view
  -- the certificate of the later epoch replaces that of the earlier, also with the same digest
  pub replaced : (place (vote prepared_again (prepare 2 3 1 19)).core 1).certificate ≡ Some (record { epoch = 3; digest = value_of 19; prepares = certificate.prepares })
  -- refused, in the order of the checks: 2, 5, 4, 6, 8, 9, 14, 7
  pub no_room : (entered fives left_16 app short (new 16 11) dossier).result ≡ Err Room
  pub no_new : (enter left_16 (proposal 3 3 16 11) dossier).result ≡ Err Kind
  pub with_held : (enter left_16 (said New 3 3 16 1 11) dossier).result ≡ Err Kind
  pub no_controller : (enter left_16 (said New 4 3 16 0 11) dossier).result ≡ Err Signer
  pub again : (enter began_17 (new 16 11) dossier).result ≡ Err Epoch
  pub no_primary : (enter left_16 (said New 2 3 16 0 15) dossier).result ≡ Err Authority
  pub without_signer : (enter left_16 (new 16 7) dossier).result ≡ Err Authority
  pub names_four : (enter left_16 (new 16 27) dossier).result ≡ Err Authority
  pub false_seal : (enter left_16 (forged (new 16 11)) dossier).result ≡ Err Seal
  pub missing : (enter left_16 (new 16 11) (take 91 dossier)).result ≡ Err (Record 91)
  pub other_base : (enter left_16 (new 0 11) dossier).result ≡ Err Number

-- TURN

abbrev pub turn : Core → Step ℕ
turn c = took_turn c app outbox

-- after all up to the last number is delivered: 48, where 0, 1 and 3 lead, and 32, where 1, 2 and 3 do
abbrev pub turn_48 : Step ℕ
turn_48 = turn (delivered_to 48 began_17)

abbrev pub turn_32 : Step ℕ
turn_32 = turn (delivered_to 32 began_1)

pub record Turns : Type 0 where
  pub result : turn_48.result ≡ answer 0 0 0 0 0 0
  -- the primary of epoch 4 is 0, which leads already, and 2 still does not
  pub view : turn_48.core.view ≡ record { epoch = 4; changing = false; leaders = 11; first = 49; last = Some 80 }
  pub table : turn_48.core.table ≡ at_16.table
  -- 0 joins 1, 2 and 3: all lead, and there is no last number
  pub all_lead : turn_32.core.view ≡ record { epoch = 4; changing = false; leaders = 15; first = 33; last = None }
  -- of a place the certificate stays
  pub certified : place turn_32.core 1 ≡ record { proposal = None; batch = None; prepares = no_ballots; commits = no_ballots; certificate = Some certificate }
  -- refused, in the order of the checks: 2, 15, 16
  pub no_room : (took_turn (delivered_to 48 began_17) app short).result ≡ Err Room
  pub no_last : (turn start).result ≡ Err Unfinished
  pub not_delivered : (turn (delivered_to 47 began_17)).result ≡ Err Unfinished
  pub changing : (turn (give_up (delivered_to 48 began_17)).core).result ≡ Err Unfinished
  pub unfinished_last : (turn (in_view last_view start)).result ≡ Err Unfinished
  pub last_epoch : (turn (delivered_to 32 (in_view last_view start))).result ≡ Err LastEpoch
