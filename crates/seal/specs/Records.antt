-- When two records are the same, and the record that stands past the end of a list.
use Rattle.std.specs.Prelude.{◌≡◌, ℕ, Bool, ◌&&◌, Decides, ◌==◌}
use Rattle.wire.specs.Kinds.{same_kind}
use Rattle.wire.specs.Values.{same_digest}
use Rattle.wire.specs.declared.kinds.Kind.TheVariants.{Unknown}
use Rattle.wire.specs.declared.records.DigestValue.{DigestValue}
use Rattle.wire.specs.declared.records.Statement.{Statement}
use Rattle.wire.specs.declared.records.Sealed.{Sealed}

-- the same statement, field by field
abbrev pub same_statement : Statement → Statement → Bool
same_statement a b =
    (same_kind a.kind b.kind) && (a.signer == b.signer && (a.epoch == b.epoch
    && (a.number == b.number && (a.held == b.held && same_digest a.digest b.digest))))

-- both tests decide equality
pub record Same : Type 0 where
  pub digests : (a b : DigestValue) → Decides (same_digest a b) (a ≡ b)
  pub statements : (a b : Statement) → Decides (same_statement a b) (a ≡ b)

-- past the end of a list
abbrev pub none : Sealed
none = record { statement = record { kind = Unknown 0; signer = 0; epoch = 0; number = 0; held = 0; digest = record { word = 0 } }; seal = 0 }

abbrev pub signer_of : Sealed → ℕ
signer_of r = r.statement.signer
