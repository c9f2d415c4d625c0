use Rattle.std.proofs.Common.{refl}
use Rattle.group.specs.Group.{grouped}
use Rattle.wire.specs.Values.{same_digest}
use Rattle.dossier.specs.Walk.{numbers}
use Rattle.dossier.specs.Cases.{Cases}

pub cases : Cases
unfolding grouped numbers same_digest
cases = record { records = refl; accepted = refl; lower_clash = refl; nothing_yet = refl; none_at_all = refl; missing = refl; surplus = refl; seal_first = refl; seal_last = refl; signer_high = refl; signer_twice = refl; unused = refl; no_multiple = refl; other_epoch = refl; two_marks = refl; left_out = refl; held_high = refl; held_digest = refl; clash = refl; clash_forged = refl; forged_first = refl; other_prepare = refl; other_digest = refl }
