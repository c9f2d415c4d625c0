-- The blocks of a padded message, as the code comes to them.
use Rattle.std.proofs.Common.{◌≡◌, ℕ, ◌+◌, ◌-◌, ◌*◌, ◌/◌, ◌%◌, ◌^◌, ◌<◌, ◌≤◌, List, [], ◌∷◌, ◌++◌, length, take, drop, set, replicate, fold, sym, ap, ◌∙◌, append_assoc, append-nil, arith}
use Rattle.std.specs.Simd.{first_chunks}
use Rattle.std.specs.List.{flat_map}
use Rattle.std.proofs.lemmas.List.{length-append, length-replicate, length-take-le, take-append-drop, take_all}
use Rattle.digest.specs.Constants.{initial}
use Rattle.digest.specs.Words.{bytes4, bytes8, put_over}
use Rattle.digest.specs.Sha256.{zeros, padding, blocks, compressed, sha256}
use Rattle.digest.proofs.Chunks.{folded_append, chunked_append}
use Rattle.digest.proofs.Puts.{begun, ended, ended_alone, side_by_side}

-- k whole blocks, then what follows them
pub blocks_append : (k : ℕ) (xs ys : List ℕ) → length xs ≡ k * 64 → blocks (xs ++ ys) ≡ first_chunks 64 k xs ++ blocks ys
blocks_append k xs ys h =
    let count : length (xs ++ ys) / 64 ≡ k + length ys / 64 = simp length-append (omega arith) in
    ap (λ n. first_chunks 64 n (xs ++ ys)) count ∙ chunked_append 64 k (length ys / 64) xs ys h

pub one_block : (xs : List ℕ) → length xs ≡ 64 → blocks xs ≡ xs ∷ []
one_block xs h =
    let count : length xs / 64 ≡ 1 = omega arith in
    ap (λ n. first_chunks 64 n xs) count ∙ ap (λ l. l ∷ []) (take_all 64 xs (omega arith))

pub two_blocks : (xs ys : List ℕ) → length xs ≡ 64 → length ys ≡ 64 → blocks (xs ++ ys) ≡ xs ∷ ys ∷ []
two_blocks xs ys h k = blocks_append 1 xs ys h ∙ (λ j. take_all 64 xs (omega arith) j ∷ one_block ys k j)

pub length-padded : (xs : List ℕ) (n bits : ℕ) → length (xs ++ padding n bits) ≡ length xs + zeros n + 9
length-padded xs n bits = simp (length-append, length-replicate) (omega arith)

-- what follows the whole blocks of a message m is padded as m is
pub blocks_padded : (m rest : List ℕ) (bits : ℕ) → rest ≡ drop (length m / 64 * 64) m → length rest ≡ length m % 64
    → blocks (m ++ padding (length m) bits) ≡ first_chunks 64 (length m / 64) m ++ blocks (rest ++ padding (length rest) bits)
blocks_padded m rest bits is size =
    let k = length m / 64 in
    let front = take (k * 64) m in
    let tail = rest ++ padding (length rest) bits in
    let whole : m ≡ front ++ rest = sym (ap (λ l. front ++ l) is ∙ take-append-drop (k * 64) m) in
    let long : length front ≡ k * 64 = length-take-le (k * 64) m (omega arith) in
    let fill : zeros (length m) ≡ zeros (length rest) = omega arith in
    let none : k ≡ k + 0 = omega arith in
    let regrouped : m ++ padding (length m) bits ≡ front ++ tail =
    (λ j. whole j ++ 128 ∷ (replicate (fill j) 0 ++ bytes8 bits)) ∙ append_assoc front rest (padding (length rest) bits) in
    let plain : first_chunks 64 k m ≡ first_chunks 64 k front = (λ j. first_chunks 64 (none j) (whole j)) ∙ (chunked_append 64 k 0 front rest long ∙ append-nil (first_chunks 64 k front)) in
    ap blocks regrouped ∙ (blocks_append k front tail long ∙ ap (λ l. l ++ blocks tail) (sym plain))

-- what the code writes where one block is enough, and where it is not
pub finished_in_one : (hs xs : List ℕ) (bits : ℕ) (block end last r : List ℕ) → length xs < 56
    → block ≡ put_over (replicate 64 0) 0 xs → end ≡ bytes8 bits → last ≡ put_over (set block (length xs) 128) 56 end → r ≡ compressed hs last
    → r ≡ fold compressed hs (blocks (xs ++ padding (length xs) bits))
finished_in_one hs xs bits block end last r h block-is end_is last-is r-is =
    let fill : 56 - 1 - length xs ≡ zeros (length xs) = omega arith in
    let whole : last ≡ xs ++ padding (length xs) bits =
    last-is
    ∙ (ap (λ l. put_over (set l (length xs) 128) 56 end) block-is
    ∙ (ap (λ l. put_over l 56 end) (begun 64 128 xs (omega arith))
    ∙ (ended 64 56 128 xs end h (ap (λ l. 56 + length l) end_is) ∙ (λ j. xs ++ 128 ∷ (replicate (fill j) 0 ++ end_is j))))) in
    let long : length (xs ++ padding (length xs) bits) ≡ 64 = omega (arith, length-padded xs (length xs) bits) in
    r-is ∙ (ap (compressed hs) whole ∙ ap (fold compressed hs) (sym (one_block (xs ++ padding (length xs) bits) long)))

pub finished_in_two : (hs xs : List ℕ) (bits : ℕ) (block end last r s : List ℕ) → 56 ≤ length xs → length xs < 64
    → block ≡ put_over (replicate 64 0) 0 xs → end ≡ bytes8 bits → last ≡ put_over (replicate 64 0) 56 end
    → r ≡ compressed hs (set block (length xs) 128) → s ≡ compressed r last
    → s ≡ fold compressed hs (blocks (xs ++ padding (length xs) bits))
finished_in_two hs xs bits block end last r s from to block-is end_is last-is r-is s-is =
    let eight = ap length end_is in
    let first = xs ++ 128 ∷ replicate (64 - 1 - length xs) 0 in
    let second = replicate 56 0 ++ end in
    let fill : 64 - 1 - length xs + 56 ≡ zeros (length xs) = omega arith in
    let first_is : set block (length xs) 128 ≡ first = ap (λ l. set l (length xs) 128) block-is ∙ begun 64 128 xs to in
    let second_is : last ≡ second = last-is ∙ ended_alone 64 56 end (ap (λ l. 56 + length l) end_is) in
    let whole : first ++ second ≡ xs ++ padding (length xs) bits =
    side_by_side 128 (64 - 1 - length xs) 56 xs end ∙ (λ j. xs ++ 128 ∷ (replicate (fill j) 0 ++ end_is j)) in
    let cut : blocks (first ++ second) ≡ first ∷ second ∷ [] =
    two_blocks first second (simp (length-append, length-replicate) (omega arith)) (simp (length-append, length-replicate) (omega arith)) in
    s-is ∙ ((λ j. compressed ((r-is ∙ ap (compressed hs) first_is) j) (second_is j)) ∙ ap (fold compressed hs) (sym cut ∙ ap blocks whole))

-- the whole hash
pub hashed : (m : List ℕ) (bs : List (List ℕ)) (rest hs last r : List ℕ) → bs ≡ first_chunks 64 (length m / 64) m → rest ≡ drop (length m / 64 * 64) m
    → length rest ≡ length m % 64 → hs ≡ fold compressed initial bs
    → last ≡ fold compressed hs (blocks (rest ++ padding (length rest) (length m * 8 % 2 ^ 64))) → r ≡ flat_map bytes4 last → r ≡ sha256 m
unfolding sha256
hashed m bs rest hs last r bs-is rest-is size hs-is last-is r-is =
    let bits = length m * 8 % 2 ^ 64 in
    let tail = blocks (rest ++ padding (length rest) bits) in
    r-is
    ∙ ap (flat_map bytes4)
    (last-is
    ∙ (ap (λ h. fold compressed h tail) (hs-is ∙ ap (fold compressed initial) bs-is)
    ∙ (sym (folded_append compressed initial (first_chunks 64 (length m / 64) m) tail) ∙ ap (fold compressed initial) (sym (blocks_padded m rest bits rest-is size)))))
