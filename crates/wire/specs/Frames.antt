-- The one frame of a sealed statement and of a batch. A frame opens with a two-byte length of what follows it, the version 1 and
-- a kind byte. All numbers are big-endian.
use Rattle.std.specs.Prelude.{◌≡◌, ℕ, zero, suc, ◌+◌, ◌-◌, ◌*◌, ◌/◌, ◌%◌, cond, not, List, [], ◌∷◌, ◌++◌, length, take, drop, replicate, Ok, Err, Result, ◌==◌, nat_lt, slice_index}
use Rattle.std.specs.Borrow.{Bor}
use Prim.Native.Nat as nat
use Rattle.std.specs.List.{flat_map}
use Rattle.wire.specs.declared.records.Statement.{Statement}
use Rattle.wire.specs.declared.records.Sealed.{Sealed}
use Rattle.wire.specs.declared.records.Request.{Request}
use Rattle.wire.specs.declared.records.Batch.{Batch}
use Rattle.wire.specs.declared.faults.FrameFault.{FrameFault}
use Rattle.wire.specs.declared.faults.WriteFault.{WriteFault}
use Rattle.wire.specs.declared.faults.WriteFault.TheVariants.{UnknownKind, TooMany}
use Rattle.wire.specs.declared.frame.BatchFrame.{BatchFrame}
use Rattle.wire.specs.declared.reading.Header.{Header}
use Rattle.wire.specs.Kinds.{kind_of, byte_of, unknown}
use Rattle.wire.specs.Bytes.{bytes4, bytes8, four_at, eight_at}

-- WRITING

-- a statement's 26 bytes: kind, signer, epoch, number, held epoch, digest
abbrev pub statement_bytes : Statement → List ℕ
statement_bytes s = byte_of s.kind ∷ s.signer ∷ (bytes4 s.epoch ++ (bytes8 s.number ++ (bytes4 s.held ++ bytes8 s.digest.word)))

-- 37 bytes; the statement's kind is the frame's
abbrev pub sealed_frame : Sealed → List ℕ
sealed_frame s = 0 ∷ 35 ∷ 1 ∷ (statement_bytes s.statement ++ bytes8 s.seal)

abbrev pub write_sealed : Sealed → Result (List ℕ) WriteFault
write_sealed s = cond (unknown s.statement.kind) (Err (UnknownKind (byte_of s.statement.kind))) (Ok (sealed_frame s))

-- a request's 21 bytes: client, timestamp, payload, seal
abbrev pub request_bytes : Request → List ℕ
request_bytes r = r.client ∷ (bytes4 r.timestamp ++ (bytes8 r.payload ++ bytes8 r.seal))

-- the count byte and the requests: what a batch's digest is taken of
abbrev pub batch_body : List Request → List ℕ
batch_body rs = length rs ∷ flat_map request_bytes rs

-- length, version, kind and count
abbrev pub batch_head : ℕ → List ℕ
batch_head count = ((3 + 21 * count) / 256) ∷ ((3 + 21 * count) % 256) ∷ 1 ∷ 9 ∷ count ∷ []

abbrev pub batch_frame : List Request → List ℕ
batch_frame rs = batch_head (length rs) ++ flat_map request_bytes rs

-- a frame in a buffer of 341 bytes, which a batch of 16 fills
abbrev pub buffered : List Request → BatchFrame
buffered rs = record { length = 5 + 21 * length rs; bytes = batch_frame rs ++ replicate (336 - 21 * length rs) 0 }

abbrev pub write_batch : List Request → Result BatchFrame WriteFault
write_batch rs = cond (nat_lt 16 (length rs)) (Err (TooMany (length rs))) (Ok (buffered rs))

-- the frame in a buffer, and its part from the count byte on
abbrev pub frame_bytes : BatchFrame → List ℕ
frame_bytes f = take (nat.min f.length 341) f.bytes

abbrev pub body_bytes : BatchFrame → List ℕ
body_bytes f = drop 4 (frame_bytes f)

-- a batch in the 16 places of its record, zeros in those that are left
abbrev pub no_request : Request
no_request = record { client = 0; timestamp = 0; payload = 0; seal = 0 }

abbrev pub stored : List Request → Batch
stored rs = record { count = length rs; requests = rs ++ replicate (16 - length rs) no_request }

abbrev pub store_batch : List Request → Result Batch WriteFault
store_batch rs = cond (nat_lt 16 (length rs)) (Err (TooMany (length rs))) (Ok (stored rs))

abbrev pub requests_of : Batch → List Request
requests_of b = take (nat.min b.count 16) b.requests

-- READING: version (place 2), kind (3), count (4) and length (0) are tried in this order, an absent byte among them is a fault at
-- its place; then the first absent byte of the rest is at fault. What is read comes with the bytes that are left.

abbrev pub fault : {X : Type 0} → ℕ → Result X FrameFault
fault p = Err (record { place = p })

-- a statement by its kind byte and the bytes after it: its fields, and the seal
abbrev pub sealed_at : ℕ → List ℕ → Sealed
sealed_at kind bs = record {
  statement = record { kind = kind_of kind; signer = slice_index bs 0; epoch = four_at bs 1; number = eight_at bs 5; held = four_at bs 13; digest = record { word = eight_at bs 17 } };
  seal = eight_at bs 25;
}

abbrev pub sealed_after : ℕ → ℕ → ℕ → List ℕ → Result (Sealed × List ℕ) FrameFault
sealed_after long version kind bs =
    cond (not (version == 1)) (fault 2)
    (cond (unknown (kind_of kind)) (fault 3)
    (cond (not (long == 35)) (fault 0)
    (cond (nat_lt (length bs) 33) (fault (4 + length bs)) (Ok (sealed_at kind bs, drop 33 bs)))))

-- header : what is found of the first four bytes; fewer than four are a fault of the version or of the kind
abbrev pub opened : {X : Type 0} → (ℕ → ℕ → ℕ → List ℕ → Result X FrameFault) → List ℕ → Result X FrameFault
opened after [] = fault 2
opened after (a ∷ []) = fault 2
opened after (a ∷ b ∷ []) = fault 2
opened after (a ∷ b ∷ version ∷ []) = cond (version == 1) (fault 3) (fault 2)
opened after (a ∷ b ∷ version ∷ kind ∷ bs) = after (a * 256 + b) version kind bs

abbrev pub header_of : List ℕ → Result (Header × List ℕ) FrameFault
header_of bs = opened (λ long version kind rest. Ok (record { long = long; version = version; kind = kind }, rest)) bs

abbrev pub take_sealed : List ℕ → Result (Sealed × List ℕ) FrameFault
take_sealed bs = opened sealed_after bs

-- the request in the 21 bytes from the front
abbrev pub request_at : List ℕ → Request
request_at bs = record { client = slice_index bs 0; timestamp = four_at bs 1; payload = eight_at bs 5; seal = eight_at bs 13 }

unfoldable pub requests_in : ℕ → List ℕ → List Request
requests_in zero bs = []
requests_in (suc k) bs = request_at bs ∷ requests_in k (drop 21 bs)

abbrev pub batch_rest : ℕ → ℕ → List ℕ → Result (Batch × List ℕ) FrameFault
batch_rest long count bs =
    cond (nat_lt 16 count) (fault 4)
    (cond (not (long == 3 + 21 * count)) (fault 0)
    (cond (nat_lt (length bs) (21 * count)) (fault (5 + length bs)) (Ok (stored (requests_in count bs), drop (21 * count) bs))))

abbrev pub batch_counted : ℕ → List ℕ → Result (Batch × List ℕ) FrameFault
batch_counted long [] = fault 4
batch_counted long (count ∷ bs) = batch_rest long count bs

abbrev pub batch_after : ℕ → ℕ → ℕ → List ℕ → Result (Batch × List ℕ) FrameFault
batch_after long version kind bs =
    cond (not (version == 1)) (fault 2) (cond (not (kind == 9)) (fault 3) (batch_counted long bs))

abbrev pub take_batch : List ℕ → Result (Batch × List ℕ) FrameFault
take_batch bs = opened batch_after bs

-- a frame that stands alone: bytes after it are a fault of the length
abbrev pub alone : {X : Type 0} → Result (X × List ℕ) FrameFault → Result X FrameFault
alone (Ok p) = cond (length p.1 == 0) (Ok p.0) (fault 0)
alone (Err f) = Err f

abbrev pub read_sealed : List ℕ → Result Sealed FrameFault
read_sealed bs = alone (take_sealed bs)

abbrev pub read_batch : List ℕ → Result Batch FrameFault
read_batch bs = alone (take_batch bs)

-- what a reader hands out is what the definition reads, the bytes that are left as a slice
abbrev pub Reads : {X : Type 0} → Result (X × Bor (List ℕ)) FrameFault → Result (X × List ℕ) FrameFault → Type 0
Reads (Ok p) read = read ≡ Ok (p.0, p.1.now)
Reads (Err f) read = read ≡ Err f
