-- Why a house is not opened.
use Rattle.std.specs.Prelude.{◌≡◌, ℕ, true, false, List, ◌++◌, codes}
use Rattle.quorum.specs.Sizes.{no_house}
use Rattle.protocol.specs.Refusals.{refusal_text}
use Rattle.protocol.specs.declared.refusal.Refusal.TheVariants.{House}
use Rattle.house.specs.declared.opening.OpenFault.{OpenFault}
use Rattle.house.specs.declared.opening.OpenFault.TheVariants.{Refused, Memory}

-- refused where there is no such house or no such controller of it, and else only for want of memory
abbrev pub Unopened : ℕ → ℕ → OpenFault → Type 0
Unopened n own (Refused why) = (no_house n own ≡ true) × (why ≡ House)
Unopened n own Memory = no_house n own ≡ false

-- what a person reads of it
abbrev pub open_fault_text : OpenFault → List ℕ
open_fault_text (Refused why) = codes "refused " ++ refusal_text why
open_fault_text Memory = codes "out of memory"
