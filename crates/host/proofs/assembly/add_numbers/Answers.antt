use Rattle.std.proofs.Common.{◌+◌, ◌-◌, map, vec_items, arith}
use Rattle.host.proofs.Turns.{numbers_turn, numbers_all}
use Rattle.host.proofs.assembly.add_numbers.Goals as goal

pub returns-in_ok-add_number : goal.returns-in_ok-add_number
returns-in_ok-add_number c =
    numbers_all (map vec_items c.args.partings.now) c.args.base (c.loop-s.s + 1 - (c.args.base + 1)) (vec_items c.args.out.now) (omega arith) (omega arith)
    (numbers_turn (map vec_items c.args.partings.now) (c.args.base + 1) c.loop-s.s (vec_items c.args.out.now) (omega arith) c.loop-s.invariant c.in_ok-add_number.ensures)
