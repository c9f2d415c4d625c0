-- A frame of four bytes and more, by its header and the rest.
use Rattle.std.proofs.Common.{◌≡◌, ℕ, ◌+◌, ◌*◌, ◌≤◌, List, [], ◌∷◌, length, get_or, drop, Result, refl, arith}
use Rattle.wire.specs.declared.faults.FrameFault.{FrameFault}
use Rattle.std.proofs.lemmas.Bool.{eq-eqb}
use Rattle.wire.specs.Frames.{opened, batch_after, batch_rest}

pub by_head : {X : Type 0} (after : ℕ → ℕ → ℕ → List ℕ → Result X FrameFault) (bs : List ℕ) → 4 ≤ length bs → opened after bs ≡ after (get_or bs 0 0 * 256 + get_or bs 1 0) (get_or bs 2 0) (get_or bs 3 0) (drop 4 bs)
by_head after [] h = absurd (omega (arith, h))
by_head after (a ∷ []) h = absurd (omega (arith, h))
by_head after (a ∷ b ∷ []) h = absurd (omega (arith, h))
by_head after (a ∷ b ∷ d ∷ []) h = absurd (omega (arith, h))
by_head after (a ∷ b ∷ d ∷ e ∷ bs) h = refl

-- and a batch's body by its count
pub by_count : (long version kind : ℕ) (bs : List ℕ) → version ≡ 1 → kind ≡ 9 → 1 ≤ length bs → batch_after long version kind bs ≡ batch_rest long (get_or bs 0 0) (drop 1 bs)
by_count long version kind [] v k h = absurd (omega (arith, h))
by_count long version kind (count ∷ bs) v k h = simp (eq-eqb version 1 v, eq-eqb kind 9 k)
