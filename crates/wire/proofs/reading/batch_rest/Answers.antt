use Rattle.std.proofs.Common.{◌*◌, arith}
use Rattle.std.proofs.lemmas.List.{take_rest}
use Rattle.std.proofs.lemmas.Bool.Decides.{nat_tests}
use Rattle.wire.proofs.reading.batch_rest.Goals as goal

pub returns : goal.returns
returns c =
    let e = take_rest c.args.rest.now (21 * c.args.count) in
    let s = c.requests_in.ensures in
    let f = c.from-size.ensures in
    let g = c.from.ensures in
    grind (arith, nat_tests)
