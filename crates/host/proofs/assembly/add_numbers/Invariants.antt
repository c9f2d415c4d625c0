use Rattle.std.proofs.Common.{◌≡◌, ◌+◌, ◌-◌, ◌++◌, map, vec_items}
use Rattle.std.specs.List.{range_with_len, flat_map}
use Rattle.host.specs.Assembly.{at_number}
use Rattle.host.proofs.assembly.add_numbers.Given as goal

-- the numbers so far
abbrev pub invariant-loop-s : goal.invariant-loop-s
invariant-loop-s l = vec_items l.out ≡ vec_items l.initial.out ++ flat_map (at_number (map vec_items l.partings)) (range_with_len (l.base + 1) (l.s - (l.base + 1)))
