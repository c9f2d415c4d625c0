use Rattle.std.proofs.Common.{◌≡◌, ℕ, [], ap, ◌∙◌, get_or, drop, rules}
use Rattle.std.specs.Int.{w64, from_be_bytes}
use Rattle.std.specs.Simd.{first_chunks}
use Rattle.vectors.proofs.Eights.{front, shift}
use Rattle.vectors.proofs.words.four_words.Goals as goal

pub returns : goal.returns
returns c =
    let d = c.args.digest.now in
    let words : c.as_chunks.result.0.now ≡ first_chunks 8 4 d = search rules in
    let one = front d in
    let two = front (drop 8 d) ∙ shift d 0 in
    let three = front (drop 8 (drop 8 d)) ∙ (shift (drop 8 d) 0 ∙ shift d 8) in
    let four = front (drop 8 (drop 8 (drop 8 d))) ∙ (shift (drop 8 (drop 8 d)) 0 ∙ (shift (drop 8 d) 8 ∙ shift d 16)) in
    let word = λ (i : ℕ). ap (λ ws. from_be_bytes w64 (get_or ws i [])) words in
    let first = c.from_be_bytes.ensures ∙ (word 0 ∙ one) in
    let second = c.from_be_bytes-2.ensures ∙ (word 1 ∙ two) in
    let third = c.from_be_bytes-3.ensures ∙ (word 2 ∙ three) in
    let last = c.from_be_bytes-4.ensures ∙ (word 3 ∙ four) in
    cc (first, second, third, last)
