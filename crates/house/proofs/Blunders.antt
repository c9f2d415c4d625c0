-- What goes wrong where a rule is done wrong.
use Rattle.std.proofs.Common.{refl}
use Rattle.wire.specs.Values.{same_digest}
use Rattle.quorum.specs.Sizes.{faults, quorum}
use Rattle.house.specs.Blunders.{BlundersShow}

pub blunders_show : BlundersShow
unfolding same_digest faults quorum
blunders_show = record {
  committed = refl;
  signed = refl;
  shared = refl;
  highest_keeps = refl;
  most_frequent_loses = refl;
  first_loses = refl;
  left_short = refl;
  right_short = refl;
  apart = refl;
}
