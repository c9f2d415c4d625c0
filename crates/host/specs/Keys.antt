-- Exercise seals: every party's key comes of the one secret, so this is no signature.
use Rattle.std.specs.Prelude.{◌≡◌, ℕ, Bool, cond, [], ◌∷◌, ◌++◌, Decides, ◌==◌}
use Rattle.wire.specs.Bytes.{bytes8}
use Rattle.wire.specs.Frames.{statement_bytes}
use Rattle.wire.specs.declared.records.Statement.{Statement}
use Rattle.wire.specs.declared.records.Sealed.{Sealed}
use Rattle.digest.specs.Fnv.{fnv1a}
use Rattle.host.specs.declared.keys.Party.{Party}
use Rattle.host.specs.declared.keys.Party.TheVariants.{Controller, Client}
use Rattle.wire.specs.declared.kinds.Kind.TheVariants.{Request}
use Rattle.wire.specs.declared.kinds.Kind.{Kind}
use Rattle.wire.specs.Kinds.{same_kind}

-- who seals a kind: 1 a client (requests), 0 a controller
abbrev pub party_of : Kind → ℕ
party_of kind = cond (same_kind kind Request) 1 0

abbrev pub party_number : Party → ℕ
party_number Controller = 0
party_number Client = 1

abbrev pub key_of : ℕ → ℕ → ℕ → ℕ
key_of secret party signer = fnv1a (bytes8 secret ++ party ∷ signer ∷ [])

-- the seal of a statement by its signer: the hash of the signer's key and the statement's bytes
unfoldable pub tag_of : ℕ → Statement → ℕ
tag_of secret st = fnv1a (bytes8 (key_of secret (party_of st.kind) st.signer) ++ statement_bytes st)

abbrev pub sealed_by : ℕ → Statement → Sealed
sealed_by secret st = record { statement = st; seal = tag_of secret st }

abbrev pub accepted_by : ℕ → Statement → ℕ → Bool
accepted_by secret st seal = seal == tag_of secret st

-- a statement is accepted under the seal that it is given, and under no other
abbrev pub OneSeal : Type 0
OneSeal = (secret : ℕ) (st : Statement) (seal : ℕ) → Decides (accepted_by secret st seal) (seal ≡ (sealed_by secret st).seal)
