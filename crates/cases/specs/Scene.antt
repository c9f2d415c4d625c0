-- The scene of the cases: controller 0 of a house of four, a simple digest, a simple application, and who says what. A genuine
-- statement has the seal 5.
use Rattle.std.specs.Prelude.{ℕ, zero, suc, ◌+◌, true, false, List, [], ◌∷◌, replicate, Some, None, Ok, sum, Option, Result, refl}
use Rattle.std.proofs.Common.{lit≤, lit<}
use Rattle.wire.specs.declared.records.DigestValue.{DigestValue}
use Rattle.wire.specs.declared.records.Sealed.{Sealed}
use Rattle.wire.specs.declared.records.Request.{Request}
use Rattle.wire.specs.declared.records.Batch.{Batch}
use Rattle.wire.specs.Values.{value_of}
use Rattle.wire.specs.Frames.{stored}
use Rattle.seal.specs.Records.{none}
use Rattle.quorum.specs.declared.house.House.{House}
use Rattle.quorum.specs.Sizes.{allowed}
use Rattle.table.specs.declared.records.Ballot.{Ballot}
use Rattle.table.specs.declared.records.Ballots.{Ballots}
use Rattle.table.specs.declared.records.Vote.{Vote}
use Rattle.table.specs.declared.records.Certificate.{Certificate}
use Rattle.table.specs.declared.records.Place.{Place}
use Rattle.table.specs.declared.records.Table.{Table}
use Rattle.table.specs.Ballots.{no_ballots, listed, no_votes}
use Rattle.table.specs.Places.{empty_place}
use Rattle.table.specs.Window.{place_at}
use Rattle.dossier.specs.Cases.{said}
use Rattle.protocol.specs.declared.records.Core.{Core}
use Rattle.protocol.specs.declared.records.View.{View}
use Rattle.protocol.specs.declared.records.Answer.{Answer}
use Rattle.protocol.specs.declared.refusal.Refusal.{Refusal}
use Rattle.protocol.specs.State.{new_core, with_table}
use Rattle.wire.specs.declared.kinds.Kind.TheVariants.{Proposal, Commit}

-- WHO AND WITH WHAT

-- controller 0 of four
abbrev pub house : House
unfolding allowed
house = record { n = 4; own = 0; sized = refl; few = lit≤ tt; placed = lit< tt }

-- the digest of bytes is their sum; the state of the application is a sum of payloads, 100 at first, and is its own mark
abbrev pub sum_of : List ℕ → DigestValue
sum_of bytes = value_of (sum bytes)

abbrev pub app : ℕ
app = 100

abbrev pub plus : ℕ → ℕ → ℕ → ℕ → ℕ
plus x client timestamp payload = x + payload

abbrev pub itself : ℕ → ℕ
itself x = x

-- outboxes that are just large enough, and one place short
abbrev pub outbox : List Sealed
outbox = replicate 400 none

abbrev pub short : List Sealed
short = replicate 399 none

-- WHAT IS SAID

-- a request of client 2, whose seal is genuine; with timestamp 1 it is in bucket 3
abbrev pub ask : ℕ → ℕ → Request
ask timestamp payload = record { client = 2; timestamp = timestamp; payload = payload; seal = 5 }

-- a batch of one request, whose digest is 1 + 2 + 1 + 10 + 5 = 19
abbrev pub batch : List Request
batch = ask 1 10 ∷ []

-- requests that are in the right bucket at number 1: k of them, with timestamps 4 apart
abbrev pub asks : ℕ → ℕ → List Request
asks zero timestamp = []
asks (suc k) timestamp = ask timestamp 10 ∷ asks k (timestamp + 4)

-- proposals and commits, by controller i
abbrev pub proposal : ℕ → ℕ → ℕ → ℕ → Sealed
proposal i epoch s d = said Proposal i epoch s 0 d

abbrev pub commit : ℕ → ℕ → ℕ → ℕ → Sealed
commit i epoch s d = said Commit i epoch s 0 d

-- what an accepted call answers
abbrev pub answer : ℕ → ℕ → ℕ → ℕ → ℕ → ℕ → Result Answer Refusal
answer issued forwarded first batches applied passed =
    Ok (record { issued = issued; forwarded = forwarded; first = first; batches = batches; applied = applied; passed = passed })

-- CONTROLLERS

-- as it begins: epoch 1, all lead, numbers from 1 on
abbrev pub start : Core
start = new_core house

abbrev pub delivered_to : ℕ → Core → Core
delivered_to d c = record { house = c.house; view = c.view; table = c.table; delivered = d; windows = c.windows }

abbrev pub in_view : View → Core → Core
in_view v c = record { house = c.house; view = v; table = c.table; delivered = c.delivered; windows = c.windows }

-- epoch 1 was given up twice
abbrev pub changing_3 : View
changing_3 = record { epoch = 3; changing = true; leaders = 15; first = 1; last = None }

-- the last epoch that there is
abbrev pub last_view : View
last_view = record { epoch = 4294967295; changing = false; leaders = 15; first = 1; last = Some 32 }

-- votes for a digest by 0, by 0 and 1, and by 0, 1 and 2
abbrev pub ballot : ℕ → Option Ballot
ballot d = Some (record { digest = value_of d; seal = 5 })

abbrev pub by_one : ℕ → Ballots
by_one d = record { of = ballot d ∷ replicate 15 None }

abbrev pub by_two : ℕ → Ballots
by_two d = record { of = ballot d ∷ ballot d ∷ replicate 14 None }

abbrev pub by_three : ℕ → Ballots
by_three d = record { of = ballot d ∷ ballot d ∷ ballot d ∷ replicate 13 None }

-- a vote with its signer
abbrev pub of_signer : ℕ → ℕ → Vote
of_signer d i = record { signer = i; digest = value_of d; seal = 5 }

-- the certificate of epoch 1 for digest 19 by 0, 1 and 2
abbrev pub certificate : Certificate
certificate = record { epoch = 1; digest = value_of 19; prepares = listed (of_signer 19 0 ∷ of_signer 19 1 ∷ of_signer 19 2 ∷ []) }

-- a place that is filled with a digest, with some commits and nothing else
abbrev pub filled_by : ℕ → Option Batch → Ballots → Place
filled_by d b commits = record { proposal = Some (value_of d); batch = b; prepares = no_ballots; commits = commits; certificate = None }

-- the place of number 1, filled with the batch
abbrev pub first_place : Ballots → Ballots → Option Certificate → Place
first_place prepares commits k =
    record { proposal = Some (value_of 19); batch = Some (stored batch); prepares = prepares; commits = commits; certificate = k }

-- a controller at its start but for some first places, and but for some checkpoints for 16
abbrev pub with_places : List Place → Core
with_places ps = with_table start (record { stable = 0; proof = no_votes; rows = no_ballots ∷ no_ballots ∷ []; places = ps })

abbrev pub with_first : Place → Core
with_first p = with_places (p ∷ replicate 31 empty_place)

abbrev pub with_row : Ballots → Core
with_row b = with_table start (record { stable = 0; proof = no_votes; rows = b ∷ no_ballots ∷ []; places = replicate 32 empty_place })

-- number 16 is stable, by checkpoints of 0, 2 and 3 with mark 9; the places of 17 to 48
abbrev pub from_16 : List Place → Table
from_16 ps =
    record { stable = 16; proof = listed (of_signer 9 0 ∷ of_signer 9 2 ∷ of_signer 9 3 ∷ []); rows = no_ballots ∷ no_ballots ∷ []; places = ps }

abbrev pub at_16 : Core
at_16 = with_table start (from_16 (replicate 32 empty_place))

-- 16 below the limit is stable, and delivered
abbrev pub near_limit : Core
near_limit =
    delivered_to 999999999984
    (with_table start (record { stable = 999999999984; proof = no_votes; rows = no_ballots ∷ no_ballots ∷ []; places = replicate 32 empty_place }))

-- the place of a number
abbrev pub place : Core → ℕ → Place
place c s = place_at c.table s
