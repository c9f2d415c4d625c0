use Rattle.std.proofs.Common.{◌≡◌, ℕ, List, map, take, vec_items}
use Rattle.std.specs.Fn.{FnReturnsAt}
use Rattle.wire.specs.declared.records.Sealed.{Sealed}
use Rattle.host.specs.Partings.{highest}
use Rattle.host.proofs.partings.highest.Given as goal

-- the first highest of the partings so far
abbrev pub invariant-loop-p : goal.invariant-loop-p
invariant-loop-p g l =
    (k : List Sealed → ℕ) → ((p : List Sealed) (n : ℕ) → FnReturnsAt g.F.Fn l.key p n → n ≡ k p) → l.best ≡ highest k (map vec_items (take l.p-index l.partings))
