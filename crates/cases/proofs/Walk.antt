-- Each case computes.
use Rattle.std.proofs.Common.{refl}
use Rattle.quorum.specs.Sizes.{allowed, faults, quorum}
use Rattle.table.specs.Window.{new_table}
use Rattle.wire.specs.Values.{same_digest}
use Rattle.window.specs.Spans.{rise}
use Rattle.group.specs.Group.{grouped}
use Rattle.dossier.specs.Walk.{numbers}
use Rattle.protocol.specs.Delivery.{deliver_one, deliver_ready}
use Rattle.protocol.specs.Enter.{choices}
use Rattle.cases.specs.Walk.{PrepareWalks}

pub prepare_walks : PrepareWalks
unfolding allowed faults quorum new_table same_digest rise grouped numbers deliver_one deliver_ready choices
prepare_walks = record {
  read = refl;
  accepted = refl;
  kept = refl;
  is_quorum = refl;
  now_quorum = refl;
  certified = refl;
  issued = refl;
  posted = refl;
  result = refl;
}
