-- The digest of a batch, and the bucket of a request.
use Rattle.std.specs.Prelude.{ℕ, ◌%◌, cond, List, [], ◌∷◌, ◌++◌, length, Ok, Err, Result, nat_lt}
use Rattle.wire.specs.declared.records.DigestValue.{DigestValue}
use Rattle.wire.specs.declared.records.Request.{Request}
use Rattle.wire.specs.declared.faults.WriteFault.{WriteFault}
use Rattle.wire.specs.declared.faults.WriteFault.TheVariants.{TooMany}
use Rattle.wire.specs.Bytes.{bytes4}
use Rattle.wire.specs.Values.{value_of, number_of}
use Rattle.wire.specs.Frames.{batch_body}

-- 0 for the empty batch under every digest, else the digest of its frame from the count byte on
abbrev pub batch_digest : (List ℕ → DigestValue) → List Request → DigestValue
batch_digest value [] = value_of 0
batch_digest value (r ∷ rs) = value (batch_body (r ∷ rs))

abbrev pub digest_batch : (List ℕ → DigestValue) → List Request → Result DigestValue WriteFault
digest_batch value rs = cond (nat_lt 16 (length rs)) (Err (TooMany (length rs))) (Ok (batch_digest value rs))

-- of 64 buckets, by the digest of timestamp (4 bytes) and client (1)
abbrev pub bucket_of : (List ℕ → DigestValue) → ℕ → ℕ → ℕ
bucket_of value client timestamp = number_of (value (bytes4 timestamp ++ client ∷ [])) % 64
