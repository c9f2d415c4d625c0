use Rattle.std.proofs.Common.{◌≡◌, ◌+◌, ◌*◌, length, take, sym, ap, ◌∙◌, arith}
use Rattle.std.specs.List.{flat_map}
use Rattle.std.proofs.lemmas.List.{take_all}
use Rattle.digest.specs.Words.{bytes4}
use Rattle.digest.proofs.Puts.{length-put_over, word_put}
use Rattle.digest.proofs.sha256.bytes_of.Goals as goal

pub loop-i-preserved : goal.loop-i-preserved
loop-i-preserved c =
    let four = ap length c.to_be_bytes.ensures in (
      ap length c.put.ensures ∙ (length-put_over c.loop-i.out _ c.to_be_bytes.result (omega arith) ∙ c.loop-i.invariant.0),
      ap (take ((c.loop-i.i + 1) * 4)) c.put.ensures ∙ word_put c.loop-i.out c.loop-i.i c.args.hash.now c.to_be_bytes.result (omega arith) (omega arith) c.loop-i.invariant.1 c.to_be_bytes.ensures,
    )

pub returns : goal.returns
returns c =
    let end : c.loop-i.i ≡ 8 = omega arith in
    sym (take_all _ c.loop-i.out (omega arith)) ∙ (c.loop-i.invariant.1 ∙ ap (flat_map bytes4) (take_all _ c.args.hash.now (omega arith)))
