-- What is written reads back as it was.
use Rattle.std.proofs.Common.{◌≡◌, ℕ, suc, ◌+◌, ◌*◌, ◌/◌, ◌%◌, ◌≤◌, false, not, eqb, ltb, List, [], ◌∷◌, ◌++◌, length, get_or, drop, Ok, refl, ap, ◌∙◌, arith}
use Rattle.std.specs.List.{flat_map}
use Rattle.std.proofs.lemmas.List.{drop_at, length-append}
use Rattle.std.proofs.lemmas.Bool.{cond-false, eq-eqb, le-ltb}
use Rattle.wire.specs.declared.records.Request.{Request}
use Rattle.wire.specs.Frames.{sealed_frame, sealed_at, sealed_after, requests_in, stored, batch_rest, request_bytes, no_request}
use Rattle.wire.specs.Laws.{Fitting, SealedReadsBack, BatchReadsBack}
use Rattle.wire.specs.Kinds.{kind_of, byte_of, unknown}
use Rattle.wire.proofs.KindBytes.{kind_back}
use Rattle.wire.proofs.Numbers.{four_back, eight_back}
use Rattle.wire.proofs.Puts.{length-joined}

sealed_passes : (kind : ℕ) (bs : List ℕ) → unknown (kind_of kind) ≡ false → 33 ≤ length bs → sealed_after 35 1 kind bs ≡ Ok (sealed_at kind bs, drop 33 bs)
sealed_passes kind bs k h = cond-false (unknown (kind_of kind)) _ _ k ∙ cond-false (ltb (length bs) 33) _ _ (le-ltb (length bs) 33 h)

pub sealed_back : SealedReadsBack
sealed_back s rest f =
    let st = s.statement in
    let is = kind_back st.kind f.known in
    let known : unknown (kind_of (byte_of st.kind)) ≡ false = ap unknown is ∙ f.known in
    let tail : List ℕ = drop 4 (sealed_frame s ++ rest) in
    let long : 33 ≤ length tail = omega arith in
    sealed_passes (byte_of st.kind) tail known long
    ∙ (λ i. Ok (
      record {
        statement = record {
          kind = is i;
          signer = st.signer;
          epoch = four_back st.epoch f.epoch i;
          number = eight_back st.number f.number i;
          held = four_back st.held f.held i;
          digest = record { word = eight_back st.digest.word f.digest i };
        };
        seal = eight_back s.seal f.seal i;
      },
      rest,
    ))

requests_back : (rs : List Request) (rest : List ℕ) → ((k : ℕ) → Fitting (get_or rs k no_request)) → requests_in (length rs) (flat_map request_bytes rs ++ rest) ≡ rs
unfolding requests_in
requests_back [] rest f = refl
requests_back (r ∷ rs) rest f =
    let g = f 0 in
    let ih = requests_back rs rest (λ k. f (suc k)) in
    λ i. record {
      client = r.client;
      timestamp = four_back r.timestamp g.timestamp i;
      payload = eight_back r.payload g.payload i;
      seal = eight_back r.seal g.seal i;
    } ∷ ih i

batch_passes : (long count : ℕ) (bs : List ℕ) → long ≡ 3 + 21 * count → count ≤ 16 → 21 * count ≤ length bs → batch_rest long count bs ≡ Ok (stored (requests_in count bs), drop (21 * count) bs)
batch_passes long count bs e few h =
    cond-false (ltb 16 count) _ _ (le-ltb 16 count few)
    ∙ (cond-false (not (eqb long (3 + 21 * count))) _ _ (ap not (eq-eqb long (3 + 21 * count) e)) ∙ cond-false (ltb (length bs) (21 * count)) _ _ (le-ltb (length bs) (21 * count) h))

pub batch_back : BatchReadsBack
batch_back rs rest few f =
    let count = length rs in
    let all = flat_map request_bytes rs in
    let size = length-joined rs in
    let room : 21 * count ≤ length (all ++ rest) = omega (arith, length-append all rest) in
    batch_passes ((3 + 21 * count) / 256 * 256 + (3 + 21 * count) % 256) count (all ++ rest) (omega arith) few room
    ∙ (λ i. Ok (stored (requests_back rs rest f i), drop_at all rest (21 * count) size i))
