-- The words of a digest are the numbers of its eights of bytes.
use Rattle.std.proofs.Common.{◌≡◌, ℕ, ◌+◌, List, [], ◌∷◌, get_or, take, drop, refl, ap, ◌∙◌, arith}
use Rattle.std.specs.Int.{w64, from_be_bytes}
use Rattle.std.proofs.lemmas.List.{get_or-drop}
use Rattle.digest.specs.Words.{eight_at}

pub front : (d : List ℕ) → from_be_bytes w64 (take 8 d) ≡ eight_at d 0
front [] = refl
front (a ∷ []) = refl
front (a ∷ b ∷ []) = refl
front (a ∷ b ∷ x ∷ []) = refl
front (a ∷ b ∷ x ∷ y ∷ []) = refl
front (a ∷ b ∷ x ∷ y ∷ e ∷ []) = refl
front (a ∷ b ∷ x ∷ y ∷ e ∷ f ∷ []) = refl
front (a ∷ b ∷ x ∷ y ∷ e ∷ f ∷ g ∷ []) = refl
front (a ∷ b ∷ x ∷ y ∷ e ∷ f ∷ g ∷ h ∷ r) = refl

pub shift : (d : List ℕ) (k : ℕ) → eight_at (drop 8 d) k ≡ eight_at d (8 + k)
shift d k =
    let at : (i : ℕ) → get_or (drop 8 d) (k + i) 0 ≡ get_or d (8 + k + i) 0 = λ i. get_or-drop 8 d (k + i) 0 ∙ ap (λ n. get_or d n 0) (omega arith) in
    let first : get_or (drop 8 d) k 0 ≡ get_or d (8 + k) 0 = get_or-drop 8 d k 0 in
    cc (first, at 1, at 2, at 3, at 4, at 5, at 6, at 7)
