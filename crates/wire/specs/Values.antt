-- Digest values, and the statement that a client seals.
use Rattle.std.specs.Prelude.{ℕ, Bool, ◌==◌}
use Rattle.wire.specs.declared.records.DigestValue.{DigestValue}
use Rattle.wire.specs.declared.records.Statement.{Statement}
use Rattle.wire.specs.declared.records.Request.{Request}
use Rattle.wire.specs.declared.kinds.Kind.TheVariants.{Request as RequestKind}

-- the digest value that stands for a number (a payload, a mark, a leader set), and the number that a value ends with
abbrev pub value_of : ℕ → DigestValue
value_of n = record { word = n }

abbrev pub number_of : DigestValue → ℕ
number_of d = d.word

-- two digest values are the same where their words are
unfoldable pub same_digest : DigestValue → DigestValue → Bool
same_digest a b = a.word == b.word

-- what a client says by a request: the client as signer, the timestamp as number, the payload as digest
abbrev pub request_statement : Request → Statement
request_statement r = record { kind = RequestKind; signer = r.client; epoch = 0; number = r.timestamp; held = 0; digest = value_of r.payload }
