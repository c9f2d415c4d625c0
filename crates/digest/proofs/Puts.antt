-- What writes into a buffer leave.
use Rattle.std.proofs.Common.{◌≡◌, ℕ, ◌+◌, ◌-◌, ◌*◌, ◌<◌, ◌≤◌, List, [], ◌∷◌, ◌++◌, length, get_or, take, drop, set, replicate, sym, ap, ◌∙◌, append_assoc, arith, rules}
use Rattle.std.specs.List.{flat_map}
use Rattle.std.proofs.lemmas.List.{places, same_lists, get_or-set_same, get_or-replicate, length-append, length-drop, length-take, length-take-le, length-replicate, take_at, take_more, flat_map_more}
use Rattle.std.proofs.lemmas.Bool.{cases_eq}
use Rattle.digest.specs.Words.{bytes4, put_over}

pub length-put_over : (xs : List ℕ) (at : ℕ) (ys : List ℕ) → at + length ys ≤ length xs → length (put_over xs at ys) ≡ length xs
length-put_over xs at ys h = simp (length-append, length-drop, length-take) (omega arith)

-- xs and the byte b, into a buffer of zeros
pub begun : (len b : ℕ) (xs : List ℕ) → length xs < len → set (put_over (replicate len 0) 0 xs) (length xs) b ≡ xs ++ b ∷ replicate (len - 1 - length xs) 0
begun len b xs h = same_lists _ _ (search (rules, places)) (λ k d lt. let here = cases_eq k (length xs) in grind (arith, places, get_or-set_same, get_or-replicate))

-- then `end` over the last zeros
pub ended : (len at b : ℕ) (xs end : List ℕ) → length xs < at → at + length end ≡ len
    → put_over (xs ++ b ∷ replicate (len - 1 - length xs) 0) at end ≡ xs ++ b ∷ (replicate (at - 1 - length xs) 0 ++ end)
ended len at b xs end h e = same_lists _ _ (simp (length-append, length-drop, length-take, length-replicate) (omega arith)) (λ k d lt. grind (arith, places, get_or-replicate))

-- or over those of another buffer
pub ended_alone : (len at : ℕ) (end : List ℕ) → at + length end ≡ len → put_over (replicate len 0) at end ≡ replicate at 0 ++ end
ended_alone len at end e = same_lists _ _ (simp (length-append, length-drop, length-take, length-replicate) (omega arith)) (λ k d lt. grind (arith, places, get_or-replicate))

-- the zeros of two buffers side by side
pub side_by_side : (b i j : ℕ) (xs end : List ℕ) → (xs ++ b ∷ replicate i 0) ++ (replicate j 0 ++ end) ≡ xs ++ b ∷ (replicate (i + j) 0 ++ end)
side_by_side b i j xs end = same_lists _ _ (search (rules, places)) (λ k d h. grind (arith, places, get_or-replicate))

-- a loop that writes the bytes of one word after another
pub word_put : (out : List ℕ) (i : ℕ) (ws bytes : List ℕ) → i < length ws → (i + 1) * 4 ≤ length out → take (i * 4) out ≡ flat_map bytes4 (take i ws)
    → bytes ≡ bytes4 (get_or ws i 0) → take ((i + 1) * 4) (put_over out (i * 4) bytes) ≡ flat_map bytes4 (take (i + 1) ws)
word_put out i ws bytes more room before is =
    let size : length (take (i * 4) out ++ bytes) ≡ (i + 1) * 4 =
    length-append (take (i * 4) out) bytes ∙ omega (arith, length-take-le (i * 4) out (omega arith), ap length is) in
    ap (take ((i + 1) * 4)) (sym (append_assoc (take (i * 4) out) bytes (drop (i * 4 + length bytes) out)))
    ∙ (take_at (take (i * 4) out ++ bytes) (drop (i * 4 + length bytes) out) ((i + 1) * 4) size
    ∙ ((λ j. before j ++ is j)
    ∙ (flat_map_more bytes4 [] (take i ws) (get_or ws i 0) ∙ ap (flat_map bytes4) (sym (take_more ws i 0 more)))))
