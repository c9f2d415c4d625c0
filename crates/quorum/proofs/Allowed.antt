-- What holds of every allowed size. Only this file and the proofs of House open the formulas.
use Rattle.std.proofs.Common.{◌≡◌, ℕ, true, ◌⊎◌, refl, arith}
use Rattle.std.proofs.lemmas.Bool.Decides.{nat_tests}
use Rattle.quorum.specs.Sizes.{allowed, faults, quorum, SizesHold}
use Rattle.quorum.specs.Cases.{Cases}

one_of : (n : ℕ) → allowed n ≡ true → (n ≡ 4) ⊎ ((n ≡ 7) ⊎ ((n ≡ 10) ⊎ ((n ≡ 13) ⊎ (n ≡ 16))))
unfolding allowed
one_of n h = grind (arith, nat_tests)

pub sizes : SizesHold
unfolding faults quorum
sizes n h =
    let c = one_of n h in
    record { few = omega arith; some = omega arith; within = omega arith; outnumbers = omega arith; wide = omega arith }

pub cases : Cases
unfolding allowed faults quorum
cases = record { sixteen_allowed = refl; sixteen_faults = refl; sixteen_quorum = refl; six_refused = refl }
