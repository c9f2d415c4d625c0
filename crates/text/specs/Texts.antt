-- What a person reads of a fault.
use Rattle.std.specs.Prelude.{ℕ, List, ◌++◌, codes, decimal}
use Rattle.text.specs.declared.fault.HexFault.{HexFault}
use Rattle.text.specs.declared.fault.HexFault.TheVariants.{Digit, Odd, Memory}

abbrev pub fault_text : HexFault → List ℕ
fault_text (Digit place) = codes "not hexadecimal: character " ++ (decimal place ++ codes " is none of 0-9 and a-f")
fault_text (Odd count) = codes "not hexadecimal: " ++ (decimal count ++ codes " digits, an odd number")
fault_text Memory = codes "not read: no memory"
