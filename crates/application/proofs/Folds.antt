-- A fold over rows of bytes.
use Rattle.std.proofs.Common.{◌≡◌, List, [], ◌∷◌, ◌++◌, fold, sym, refl, ◌∙◌}
use Rattle.std.specs.List.{flat_map}
use Rattle.std.proofs.lemmas.List.Sums.{fold-append}

-- row by row is byte by byte
pub folded_rows : {X A B : Type 0} (f : B → A → B) (g : X → List A) (a : B) (xs : List X) → fold (λ b x. fold f b (g x)) a xs ≡ fold f a (flat_map g xs)
folded_rows f g a [] = refl
folded_rows f g a (x ∷ xs) = folded_rows f g (fold f a (g x)) xs ∙ sym (fold-append f a (g x) (flat_map g xs))

-- three rows after one another
pub folded_three : {A B : Type 0} (f : B → A → B) (a : B) (xs ys zs : List A) → fold f (fold f (fold f a xs) ys) zs ≡ fold f a (xs ++ (ys ++ zs))
folded_three f a xs ys zs = sym (fold-append f a xs (ys ++ zs) ∙ fold-append f (fold f a xs) ys zs)
