-- Worked sizes.
use Rattle.std.specs.Prelude.{◌≡◌, true, false}
use Rattle.quorum.specs.Sizes.{allowed, faults, quorum}

-- of sixteen controllers five may lie and eleven are a quorum; no house has six
pub record Cases : Type 0 where
  pub sixteen_allowed : allowed 16 ≡ true
  pub sixteen_faults : faults 16 ≡ 5
  pub sixteen_quorum : quorum 16 ≡ 11
  pub six_refused : allowed 6 ≡ false
