use Rattle.std.proofs.Common.{refl}
use Rattle.wire.specs.Values.{same_digest}
use Rattle.group.specs.Group.{grouped}
use Rattle.dossier.specs.Walk.{numbers}
use Rattle.host.specs.Keys.{tag_of}
use Rattle.host.specs.Assembly.{at_number, at_numbers}
use Rattle.host.specs.Cases.{Cases}

pub cases : Cases
unfolding grouped numbers same_digest at_number at_numbers tag_of
cases = record {
  base = refl;
  whole = refl;
  records = refl;
  accepted = refl;
  first = refl;
  short = refl;
  nobody = refl;
  silent = refl;
  far = refl;
  prepare_tag = refl;
  order_tag = refl;
  other_secret = refl;
}
