use Rattle.std.proofs.Common.{refl}
use Rattle.cases.proofs.Basics.{sizes_of_houses, leaders_of_epoch, window_of_client, frame_of_prepare, dossier_of_epoch_3, valve_opened_twice}
use Rattle.cases.proofs.Ordering.{offers, votes_of_epoch, votes_for_checkpoints}
use Rattle.cases.proofs.Changing.{give_ups, entries, turns}
use Rattle.cases.proofs.Catching.{supplies, provings}
use Rattle.cases.proofs.Walk.{prepare_walks}
use Rattle.cases.proofs.cases_hold.Goals as goal

pub returns : goal.returns
returns c = record {
  sizes = sizes_of_houses;
  leaders = leaders_of_epoch;
  window = window_of_client;
  frame = frame_of_prepare;
  dossier = dossier_of_epoch_3;
  valves = valve_opened_twice;
  offers = offers;
  votes = votes_of_epoch;
  checkpoints = votes_for_checkpoints;
  supplies = supplies;
  provings = provings;
  give_ups = give_ups;
  entries = entries;
  turns = turns;
  walk = prepare_walks;
  refusals = refl;
}
