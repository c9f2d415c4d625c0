use Rattle.std.proofs.Common.{◌≡◌, ◌/◌, length, map, vec_items, ap, ◌∙◌, rules, arith}
use Rattle.std.proofs.lemmas.Bool.Decides.{nat_tests}
use Rattle.text.specs.Hex.{bytes_of}
use Rattle.text.proofs.Pairs.{pair, pairs_bytes}
use Rattle.text.proofs.hex.decode_hex.Goals as goal

pub returns : goal.returns
returns c =
    let text = c.args.text.now in
    let made : vec_items c.in_ok-bytes.bytes ≡ map pair c.as_chunks.result.0.now = search rules in
    let meant : vec_items c.in_ok-bytes.bytes ≡ bytes_of (length text / 2) text = made ∙ (ap (map pair) c.as_chunks.ensures.front ∙ pairs_bytes (length text / 2) text) in
    grind (arith, nat_tests, meant)
