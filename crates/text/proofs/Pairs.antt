-- Digits two by two.
use Rattle.std.proofs.Common.{◌≡◌, ℕ, zero, suc, ◌+◌, ◌*◌, Bool, true, false, cond, not, List, [], ◌∷◌, ◌++◌, get_or, take, drop, map, Some, Option, refl, ap, ◌∙◌, arith}
use Rattle.std.specs.List.{position_from}
use Rattle.std.specs.Simd.{first_chunks}
use Rattle.std.proofs.lemmas.List.{get_or-drop}
use Rattle.text.specs.Hex.{is_digit, digit_value, first_bad, byte_at, bytes_of}

turned : (b : Bool) (x y z : Option ℕ) → x ≡ y → cond (not b) z x ≡ cond b y z
turned true x y z e = e
turned false x y z e = refl

-- the first that is no digit
pub first_found : (i : ℕ) (text : List ℕ) → position_from (λ c. not (is_digit c)) i text ≡ first_bad i text
first_found i [] = refl
first_found i (c ∷ cs) = turned (is_digit c) _ _ (Some i) (first_found (i + 1) cs)

-- the byte in two digits
abbrev pub pair : List ℕ → ℕ
pair p = digit_value (get_or p 0 0) * 16 + digit_value (get_or p 1 0)

first_pair : (text : List ℕ) → pair (take 2 text) ≡ byte_at text 0
first_pair [] = refl
first_pair (a ∷ []) = refl
first_pair (a ∷ b ∷ cs) = refl

further : (text : List ℕ) (n : ℕ) → byte_at (drop 2 text) n ≡ byte_at text (suc n)
further text n =
    let high : get_or (drop 2 text) (2 * n) 0 ≡ get_or text (2 * suc n) 0 = get_or-drop 2 text (2 * n) 0 ∙ ap (λ k. get_or text k 0) (omega arith) in
    let low : get_or (drop 2 text) (2 * n + 1) 0 ≡ get_or text (2 * suc n + 1) 0 = get_or-drop 2 text (2 * n + 1) 0 ∙ ap (λ k. get_or text k 0) (omega arith) in
    cc

from_front : (n : ℕ) (text : List ℕ) → byte_at text 0 ∷ bytes_of n (drop 2 text) ≡ bytes_of (suc n) text
unfolding bytes_of
from_front zero text = refl
from_front (suc n) text =
    ap (λ b. byte_at text 0 ∷ (bytes_of n (drop 2 text) ++ b ∷ [])) (further text n)
    ∙ ap (λ l. l ++ byte_at text (suc n) ∷ []) (from_front n text)

pub pairs_bytes : (n : ℕ) (text : List ℕ) → map pair (first_chunks 2 n text) ≡ bytes_of n text
unfolding bytes_of
pairs_bytes zero text = refl
pairs_bytes (suc n) text =
    ap (λ l. pair (take 2 text) ∷ l) (pairs_bytes n (drop 2 text))
    ∙ (ap (λ b. b ∷ bytes_of n (drop 2 text)) (first_pair text) ∙ from_front n text)
