-- Each case computes.
use Rattle.std.proofs.Common.{refl}
use Rattle.quorum.specs.Sizes.{allowed, faults, quorum}
use Rattle.window.specs.Spans.{rise}
use Rattle.wire.specs.Frames.{requests_in}
use Rattle.group.specs.Group.{grouped}
use Rattle.dossier.specs.Walk.{numbers}
use Rattle.wire.specs.Values.{same_digest}
use Rattle.valves.specs.Valves.{new_valves, after as valves-after}
use Rattle.cases.specs.Basics.{SizesOfHouses, LeadersOfEpoch, WindowOfClient, FrameOfPrepare, DossierOfEpoch3, ValveOpenedTwice}

pub sizes_of_houses : SizesOfHouses
unfolding allowed faults quorum
sizes_of_houses = record {
  faults_of_16 = refl;
  quorum_of_16 = refl;
  sixteen = refl;
  no_six = refl;
  no_controller = refl;
}

pub leaders_of_epoch : LeadersOfEpoch
leaders_of_epoch = record {
  at_position = refl;
  third_at = refl;
  third_owns = refl;
  first_does_not = refl;
  second_does_not = refl;
  bucket_at = refl;
  bucket_in = refl;
  bucket_out = refl;
  primary_of_5 = refl;
}

pub window_of_client : WindowOfClient
unfolding rise
window_of_client = record {
  base = refl;
  again = refl;
  last = refl;
  outside = refl;
  applied = refl;
}

pub frame_of_prepare : FrameOfPrepare
unfolding requests_in
frame_of_prepare = record {
  written = refl;
  reads_back = refl;
  cut_0_to_3 = refl;
  cut_4_to_16 = refl;
  cut_17_to_28 = refl;
  cut_29_to_36 = refl;
  version = refl;
  kind = refl;
  long = refl;
  trailing = refl;
  count = refl;
  empty_batch = refl;
}

pub dossier_of_epoch_3 : DossierOfEpoch3
unfolding grouped numbers same_digest
dossier_of_epoch_3 = record {
  records = refl;
  accepted = refl;
  missing = refl;
}

pub valve_opened_twice : ValveOpenedTwice
unfolding new_valves valves-after
valve_opened_twice = record {
  account = refl;
  plant = refl;
}
