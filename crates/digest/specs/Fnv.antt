-- FNV-1a of 64 bits: for each byte in order, the hash is xored with the byte and multiplied by the prime modulo 2^64.
use Rattle.std.specs.Prelude.{ℕ, ◌*◌, ◌%◌, ◌^◌, List, fold, bit_xor}

abbrev pub mix : ℕ → ℕ → ℕ
mix hash byte = bit_xor hash byte * 0x100000001b3 % 2 ^ 64

abbrev pub fnv_from : ℕ → List ℕ → ℕ
fnv_from hash bytes = fold mix hash bytes

-- from the offset basis on
abbrev pub fnv1a : List ℕ → ℕ
fnv1a bytes = fnv_from 0xcbf29ce484222325 bytes
