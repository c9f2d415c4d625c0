-- Each case computes.
use Rattle.std.proofs.Common.{refl}
use Rattle.quorum.specs.Sizes.{allowed, faults, quorum}
use Rattle.table.specs.Window.{new_table}
use Rattle.wire.specs.Values.{same_digest}
use Rattle.window.specs.Spans.{rise}
use Rattle.group.specs.Group.{grouped}
use Rattle.protocol.specs.Delivery.{deliver_one, deliver_ready}
use Rattle.dossier.specs.Walk.{numbers}
use Rattle.protocol.specs.Enter.{choices}
use Rattle.cases.specs.Ordering.{Offers, VotesOfEpoch, VotesForCheckpoints}

pub offers : Offers
unfolding allowed faults quorum new_table same_digest rise
offers = record {
  result = refl;
  issued = refl;
  posted = refl;
  room_stays = refl;
  table = refl;
  unchanged = refl;
  empty = refl;
  empty_known = refl;
  first_offered = refl;
  last_offered = refl;
  last_place = refl;
  last_number = refl;
  sixteen = refl;
  no_room = refl;
  no_proposal = refl;
  with_held = refl;
  no_controller = refl;
  other_epoch = refl;
  changing = refl;
  no_place = refl;
  delivered = refl;
  stable = refl;
  below_first = refl;
  above_last = refl;
  above_limit = refl;
  again = refl;
  again_by_other = refl;
  by_other = refl;
  other_digest = refl;
  empty_digest = refl;
  seventeen = refl;
  filled_with_0 = refl;
  false_seal = refl;
  no_client = refl;
  outside = refl;
  twice = refl;
  in_known = refl;
  other_bucket = refl;
  forged_request = refl;
  stays = refl;
  not_posted = refl;
}

pub votes_of_epoch : VotesOfEpoch
unfolding allowed faults quorum new_table same_digest rise grouped deliver_one deliver_ready
votes_of_epoch = record {
  first = refl;
  first_table = refl;
  second_table = refl;
  third = refl;
  third_issued = refl;
  third_table = refl;
  fourth = refl;
  fourth_certificate = refl;
  after_delivery = refl;
  first_commit = refl;
  not_yet = refl;
  two_commits = refl;
  delivers = refl;
  batches = refl;
  applied = refl;
  delivered = refl;
  marked = refl;
  others_not = refl;
  no_room = refl;
  no_vote = refl;
  with_held = refl;
  no_controller = refl;
  other_epoch = refl;
  no_place = refl;
  no_proposal = refl;
  other_digest = refl;
  again = refl;
  commit_again = refl;
  false_seal = refl;
}

pub votes_for_checkpoints : VotesForCheckpoints
unfolding allowed faults quorum new_table same_digest rise grouped numbers deliver_one deliver_ready choices
votes_for_checkpoints = record {
  first = refl;
  two_equal = refl;
  three_equal = refl;
  result = refl;
  delivered = refl;
  below = refl;
  above = refl;
  last_number = refl;
  above_limit = refl;
  changing = refl;
  prepare_changing = refl;
  no_multiple = refl;
  again = refl;
  with_epoch = refl;
}
