-- Each record has one frame: what is written reads back as it was, and bytes that read as a record are its writing.
use Rattle.std.specs.Prelude.{◌≡◌, ℕ, ◌<◌, ◌≤◌, false, Decides, List, ◌++◌, length, Ok, slice_index_or}
use Rattle.wire.specs.declared.records.Sealed.{Sealed}
use Rattle.wire.specs.declared.records.Request.{Request}
use Rattle.wire.specs.declared.records.Batch.{Batch}
use Rattle.wire.specs.declared.kinds.Kind.{Kind}
use Rattle.wire.specs.Kinds.{kind_of, byte_of, same_kind, unknown}
use Rattle.wire.specs.Bytes.{Bytes}
use Rattle.wire.specs.Frames.{sealed_frame, take_sealed, batch_frame, take_batch, stored, requests_of, no_request}

-- each field within its width, and a kind that a statement has
pub record Fitted (s : Sealed) : Type 0 where
  pub known : unknown s.statement.kind ≡ false
  pub epoch : s.statement.epoch < 4294967296
  pub number : s.statement.number < 18446744073709551616
  pub held : s.statement.held < 4294967296
  pub digest : s.statement.digest.word < 18446744073709551616
  pub seal : s.seal < 18446744073709551616

pub record Fitting (r : Request) : Type 0 where
  pub timestamp : r.timestamp < 4294967296
  pub payload : r.payload < 18446744073709551616
  pub seal : r.seal < 18446744073709551616

-- whatever bytes follow
abbrev pub SealedReadsBack : Type 0
SealedReadsBack = (s : Sealed) (rest : List ℕ) → Fitted s → take_sealed (sealed_frame s ++ rest) ≡ Ok (s, rest)

abbrev pub BatchReadsBack : Type 0
BatchReadsBack =
    (rs : List Request) (rest : List ℕ) → length rs ≤ 16 → ((k : ℕ) → Fitting (slice_index_or rs k no_request))
    → take_batch (batch_frame rs ++ rest) ≡ Ok (stored rs, rest)

abbrev pub SealedIsFrame : Type 0
SealedIsFrame = (bs : List ℕ) (s : Sealed) (rest : List ℕ) → Bytes bs → take_sealed bs ≡ Ok (s, rest) → bs ≡ sealed_frame s ++ rest

abbrev pub BatchIsFrame : Type 0
BatchIsFrame =
    (bs : List ℕ) (b : Batch) (rest : List ℕ) → Bytes bs → take_batch bs ≡ Ok (b, rest) → bs ≡ batch_frame (requests_of b) ++ rest

-- each byte is that of its kind, and a kind that statements have is that of its byte
pub record KindsReadBack : Type 0 where
  pub bytes : (byte : ℕ) → byte_of (kind_of byte) ≡ byte
  pub kinds : (kind : Kind) → unknown kind ≡ false → kind_of (byte_of kind) ≡ kind

-- the test of kinds decides equality
abbrev pub SameKinds : Type 0
SameKinds = (a b : Kind) → Decides (same_kind a b) (a ≡ b)
