-- What holds of each element: after one is set, and of equal ones.
use Rattle.std.proofs.Common.{ℕ, zero, suc, List, [], ◌∷◌, get_or, set, replicate}

pub each_set : {X : Type 0} (P : X → Type 0) (xs : List X) (i : ℕ) (x d : X) → ((k : ℕ) → P (get_or xs k d)) → P x → (k : ℕ) → P (get_or (set xs i x) k d)
each_set P [] i x d h p k = h k
each_set P (y ∷ ys) zero x d h p zero = p
each_set P (y ∷ ys) zero x d h p (suc k) = h (suc k)
each_set P (y ∷ ys) (suc i) x d h p zero = h zero
each_set P (y ∷ ys) (suc i) x d h p (suc k) = each_set P ys i x d (λ j. h (suc j)) p k

pub each_replicate : {X : Type 0} (P : X → Type 0) (n : ℕ) (x d : X) → P x → P d → (k : ℕ) → P (get_or (replicate n x) k d)
each_replicate P zero x d p q k = q
each_replicate P (suc n) x d p q zero = p
each_replicate P (suc n) x d p q (suc k) = each_replicate P n x d p q k
