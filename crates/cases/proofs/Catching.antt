-- Each case computes.
use Rattle.std.proofs.Common.{refl}
use Rattle.quorum.specs.Sizes.{allowed, faults, quorum}
use Rattle.table.specs.Window.{new_table}
use Rattle.wire.specs.Values.{same_digest}
use Rattle.window.specs.Spans.{rise}
use Rattle.group.specs.Group.{grouped}
use Rattle.dossier.specs.Walk.{numbers}
use Rattle.protocol.specs.Delivery.{deliver_one, deliver_ready}
use Rattle.protocol.specs.Enter.{choices}
use Rattle.cases.specs.Catching.{Supplies, Provings}

pub supplies : Supplies
unfolding allowed faults quorum new_table same_digest rise grouped numbers deliver_one deliver_ready choices
supplies = record {
  result = refl;
  known = refl;
  delivers = refl;
  batches = refl;
  applied = refl;
  delivered = refl;
  changing = refl;
  behind = refl;
  no_room = refl;
  last_place = refl;
  stable = refl;
  no_place = refl;
  free = refl;
  empty_known = refl;
  other_batch = refl;
}

pub provings : Provings
unfolding allowed faults quorum new_table same_digest rise grouped numbers deliver_one deliver_ready choices
provings = record {
  result = refl;
  batches = refl;
  applied = refl;
  delivered = refl;
  table_stays = refl;
  passed_over = refl;
  not_applied = refl;
  goes_on = refl;
  checkpoint = refl;
  no_checkpoint = refl;
  checkpoint_result = refl;
  stable = refl;
  changing = refl;
  last_number = refl;
  no_room = refl;
  not_next = refl;
  too_high = refl;
  none_at_all = refl;
  too_few = refl;
  too_many = refl;
  no_commit = refl;
  two_epochs = refl;
  no_epoch = refl;
  same_signer = refl;
  false_seal = refl;
  other_batch = refl;
}
