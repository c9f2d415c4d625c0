-- What a code tells of the tests before it.
use Rattle.std.proofs.Common.{◌≡◌, ℕ, Bool, true, false, cond, refl, arith}

-- a code that is 0 passed each test before it
pub passed : (p v a : Bool) → ◌≡◌ {A = ℕ} (cond p 2 (cond v 3 (cond a 4 0))) 0 → (p ≡ false) × (v ≡ false) × (a ≡ false)
passed true v a e = absurd (omega (arith, e))
passed false true a e = absurd (omega (arith, e))
passed false false true e = absurd (omega (arith, e))
passed false false false e = (refl, refl, refl)
