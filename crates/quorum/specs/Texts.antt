-- What is printed.
use Rattle.std.specs.Prelude.{ℕ, List, ◌++◌, codes, decimal}
use Rattle.quorum.specs.declared.house.BadHouse.{BadHouse}

-- why a house is refused
abbrev pub bad_house_text : BadHouse → List ℕ
bad_house_text e = codes "no house of " ++ (decimal e.n ++ (codes " controllers has a number " ++ decimal e.own))
