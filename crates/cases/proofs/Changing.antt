-- Each case computes.
use Rattle.std.proofs.Common.{refl}
use Rattle.quorum.specs.Sizes.{allowed, faults, quorum}
use Rattle.table.specs.Window.{new_table}
use Rattle.wire.specs.Values.{same_digest}
use Rattle.window.specs.Spans.{rise}
use Rattle.group.specs.Group.{grouped}
use Rattle.dossier.specs.Walk.{numbers}
use Rattle.protocol.specs.Delivery.{deliver_one, deliver_ready}
use Rattle.protocol.specs.Enter.{choices}
use Rattle.cases.specs.Changing.{GiveUps, Entries, Turns}

pub give_ups : GiveUps
unfolding allowed faults quorum new_table same_digest rise grouped numbers deliver_one deliver_ready choices
give_ups = record {
  result = refl;
  issued = refl;
  last_issued = refl;
  forwarded = refl;
  view = refl;
  table_stays = refl;
  two_issued = refl;
  two_forwarded = refl;
  result_16 = refl;
  issued_16 = refl;
  forwarded_16 = refl;
  again = refl;
  no_room = refl;
  last_epoch = refl;
}

pub entries : Entries
unfolding allowed faults quorum new_table same_digest rise grouped numbers deliver_one deliver_ready choices
entries = record {
  result = refl;
  issued = refl;
  view = refl;
  table = refl;
  rises = refl;
  rises_by = refl;
  stays = refl;
  passed_by = refl;
  from_base = refl;
  one_chosen = refl;
  carried = refl;
  carried_view = refl;
  replaced = refl;
  no_room = refl;
  no_new = refl;
  with_held = refl;
  no_controller = refl;
  again = refl;
  no_primary = refl;
  without_signer = refl;
  names_four = refl;
  false_seal = refl;
  missing = refl;
  other_base = refl;
}

pub turns : Turns
unfolding allowed faults quorum new_table same_digest rise grouped numbers deliver_one deliver_ready choices
turns = record {
  result = refl;
  view = refl;
  table = refl;
  all_lead = refl;
  certified = refl;
  no_room = refl;
  no_last = refl;
  not_delivered = refl;
  changing = refl;
  unfinished_last = refl;
  last_epoch = refl;
}
