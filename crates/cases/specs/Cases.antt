-- The table of worked cases.
use Rattle.std.specs.Prelude.{◌≡◌, [], ◌∷◌, map}
use Rattle.protocol.specs.declared.refusal.Refusal.TheVariants.{House, Room, Frame, Signer, Kind, Epoch, Number, Authority, Seal, Standing, Unproposed, Batch, Request, Record, Unfinished, LastEpoch}
use Rattle.protocol.specs.Refusals.{refusal_number}
use Rattle.cases.specs.Basics.{SizesOfHouses, LeadersOfEpoch, WindowOfClient, FrameOfPrepare, DossierOfEpoch3, ValveOpenedTwice}
use Rattle.cases.specs.Ordering.{Offers, VotesOfEpoch, VotesForCheckpoints}
use Rattle.cases.specs.Changing.{GiveUps, Entries, Turns}
use Rattle.cases.specs.Catching.{Supplies, Provings}
use Rattle.cases.specs.Walk.{PrepareWalks}

pub record Cases : Type 0 where
  pub sizes : SizesOfHouses
  pub leaders : LeadersOfEpoch
  pub window : WindowOfClient
  pub frame : FrameOfPrepare
  pub dossier : DossierOfEpoch3
  pub valves : ValveOpenedTwice
  -- the seven calls
  pub offers : Offers
  pub votes : VotesOfEpoch
  pub checkpoints : VotesForCheckpoints
  pub supplies : Supplies
  pub provings : Provings
  pub give_ups : GiveUps
  pub entries : Entries
  pub turns : Turns
  -- one prepare from its frame to a certificate
  pub walk : PrepareWalks
  -- the refusals and their numbers
  pub refusals : map refusal_number (House ∷ Room ∷ Frame (record { place = 2 }) ∷ Signer ∷ Kind ∷ Epoch ∷ Number ∷ Authority ∷ Seal ∷ Standing ∷ Unproposed ∷ Batch ∷ Request 0 ∷ Record 0 ∷ Unfinished ∷ LastEpoch ∷ []) ≡ 1 ∷ 2 ∷ 3 ∷ 4 ∷ 5 ∷ 6 ∷ 7 ∷ 8 ∷ 9 ∷ 10 ∷ 11 ∷ 12 ∷ 13 ∷ 14 ∷ 15 ∷ 16 ∷ []
