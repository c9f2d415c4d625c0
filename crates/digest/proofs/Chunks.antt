-- A fold over two lists, and a list cut into chunks.
use Rattle.std.proofs.Common.{◌≡◌, ℕ, zero, suc, ◌+◌, ◌*◌, ◌≤◌, List, [], ◌∷◌, ◌++◌, length, drop, fold, refl, ap, ◌∙◌, suc-mul, suc-add, arith}
use Rattle.std.specs.Simd.{first_chunks}
use Rattle.std.proofs.lemmas.List.{length-drop, nil_from_length, take-append-le, drop-append-le}

pub folded_append : {A B : Type 0} (f : B → A → B) (a : B) (xs ys : List A) → fold f a (xs ++ ys) ≡ fold f (fold f a xs) ys
folded_append f a [] ys = refl
folded_append f a (x ∷ xs) ys = folded_append f (f a x) xs ys

-- k whole chunks, then what follows them
pub chunked_append : {X : Type 0} (n k j : ℕ) (xs ys : List X) → length xs ≡ k * n → first_chunks n (k + j) (xs ++ ys) ≡ first_chunks n k xs ++ first_chunks n j ys
chunked_append n zero j xs ys h =
    let none : xs ≡ [] = nil_from_length xs (omega arith) in
    let on : 0 + j ≡ j = omega arith in
    ap (λ i. first_chunks n i (xs ++ ys)) on ∙ ap (λ l. first_chunks n j (l ++ ys)) none
chunked_append n (suc k) j xs ys h =
    let size : length xs ≡ k * n + n = h ∙ suc-mul k n in
    let enough : n ≤ length xs = omega arith in
    let left : length (drop n xs) ≡ k * n = simp length-drop (omega arith) in
    let first = take-append-le n xs ys enough in
    let others = ap (λ l. first_chunks n (k + j) l) (drop-append-le n xs ys enough) ∙ chunked_append n k j (drop n xs) ys left in
    ap (λ i. first_chunks n i (xs ++ ys)) (suc-add k j) ∙ (λ i. first i ∷ others i)
