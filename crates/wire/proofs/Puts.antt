-- What writes into a buffer leave.
use Rattle.std.proofs.Common.{◌≡◌, ℕ, ◌+◌, ◌-◌, ◌*◌, ◌<◌, ◌≤◌, min, ltb, ◌⊎◌, List, [], ◌∷◌, ◌++◌, length, get_or, take, drop, replicate, Ok, sym, refl, ap, ◌∙◌, inl, inr, arith}
use Rattle.std.specs.List.{flat_map}
use Rattle.std.proofs.lemmas.List.{places, same_lists, length-append, length-drop, length-take, length-take-le, take-append-drop, take_more, flat_map_more, drop-replicate, length-replicate, drop_all, take_at}
use Rattle.std.proofs.lemmas.Bool.{cond-false, le-ltb, cases_lt}
use Rattle.wire.specs.declared.records.Request.{Request}
use Rattle.wire.specs.declared.frame.BatchFrame.{BatchFrame}
use Rattle.wire.specs.Bytes.{put_over}
use Rattle.wire.specs.Frames.{request_bytes, batch_head, batch_frame, buffered, write_batch, store_batch, no_request, body_bytes, batch_body}

pub length-joined : (rs : List Request) → length (flat_map request_bytes rs) ≡ 21 * length rs
length-joined [] = refl
length-joined (r ∷ rs) = length-append (request_bytes r) (flat_map request_bytes rs) ∙ omega (arith, length-joined rs)

pub put_none : (d : List ℕ) (at : ℕ) → put_over d at [] ≡ d
put_none d at = let z : at + 0 ≡ at = omega arith in ap (λ n. take at d ++ drop n d) z ∙ take-append-drop at d

-- a write right after a write
pub put_more : (d : List ℕ) (at then : ℕ) (xs ys : List ℕ) → then ≡ at + length xs → then + length ys ≤ length d → put_over (put_over d at xs) then ys ≡ put_over d at (xs ++ ys)
put_more d at then xs ys e h =
    same_lists _ _ (simp (length-append, length-drop, length-take) (omega arith)) (λ k x lt. grind (arith, places))

-- one request more
pub request_put : (d b e : List ℕ) (rs : List Request) (i : ℕ) (row : List ℕ) → i < length rs → 5 + 21 * length rs ≤ length d
    → b ≡ put_over d 5 (flat_map request_bytes (take i rs)) → row ≡ request_bytes (get_or rs i no_request) → e ≡ put_over b (5 + 21 * i) row
    → e ≡ put_over d 5 (flat_map request_bytes (take (i + 1) rs))
request_put d b e rs i row h room before is after =
    let some = flat_map request_bytes (take i rs) in
    let size : length some ≡ 21 * i = length-joined (take i rs) ∙ ap (λ n. 21 * n) (length-take-le i rs (omega arith)) in
    let long = ap length is in
    after
    ∙ (ap (λ l. put_over l (5 + 21 * i) row) before
    ∙ (put_more d 5 (5 + 21 * i) some row (omega arith) (omega (arith, long))
    ∙ ap (put_over d 5) (ap (λ l. some ++ l) is ∙ (flat_map_more request_bytes [] (take i rs) (get_or rs i no_request) ∙ ap (flat_map request_bytes) (sym (take_more rs i no_request h))))))

-- head and requests, over zeros
pub batch_written : (z : ℕ) (rs : List Request) (head b e : List ℕ) → 5 + 21 * length rs ≤ z → head ≡ batch_head (length rs) → b ≡ put_over (replicate z 0) 0 head
    → e ≡ put_over b 5 (flat_map request_bytes rs) → e ≡ batch_frame rs ++ replicate (z - 5 - 21 * length rs) 0
batch_written z rs head b e h is before after =
    let all = flat_map request_bytes rs in
    let size = length-joined rs in
    let zeros = length-replicate {A = ℕ} z 0 in
    let room : 5 + length all ≤ length (replicate z 0) = omega arith in
    let at : 0 + length (batch_head (length rs) ++ all) ≡ 5 + 21 * length rs = omega arith in
    let left : z - (5 + 21 * length rs) ≡ z - 5 - 21 * length rs = omega arith in
    after
    ∙ (ap (λ l. put_over l 5 all) (before ∙ ap (put_over (replicate z 0) 0) is)
    ∙ (put_more (replicate z 0) 0 5 (batch_head (length rs)) all refl room
    ∙ ap (λ l. batch_frame rs ++ l) (ap (λ n. drop n (replicate z 0)) at ∙ (drop-replicate (5 + 21 * length rs) z 0 ∙ ap (λ n. replicate n 0) left))))

pub batch_given : (rs : List Request) (f : BatchFrame) → length rs ≤ 16 → f ≡ buffered rs → Ok f ≡ write_batch rs
batch_given rs f h e = ap Ok e ∙ sym (cond-false (ltb 16 (length rs)) _ _ (le-ltb 16 (length rs) h))

pub batch_stored : (rs ys : List Request) → length rs ≤ 16 → ys ≡ rs ++ drop (length rs) (replicate 16 no_request) → Ok (record { count = length rs; requests = ys }) ≡ store_batch rs
batch_stored rs ys h e =
    (λ i. Ok (record { count = length rs; requests = (e ∙ ap (λ l. rs ++ l) (drop-replicate (length rs) 16 no_request)) i }))
    ∙ sym (cond-false (ltb 16 (length rs)) _ _ (le-ltb 16 (length rs) h))

-- all from place k on, where there may be none
pub drop_min : (k : ℕ) (xs : List ℕ) → drop (min (length xs) k) xs ≡ drop k xs
drop_min k xs = go (cases_lt (length xs) k)
  where
    go : (length xs < k) ⊎ (k ≤ length xs) → drop (min (length xs) k) xs ≡ drop k xs
    go (inl h) = drop_all (min (length xs) k) xs (omega arith) ∙ sym (drop_all k xs (omega arith))
    go (inr h) = let e : min (length xs) k ≡ k = omega arith in ap (λ n. drop n xs) e

-- a written batch, from the count byte on
pub body_back : (rs : List Request) → length rs ≤ 16 → body_bytes (buffered rs) ≡ batch_body rs
body_back rs h =
    let size = length-joined rs in
    ap (drop 4) (take_at (batch_frame rs) (replicate (336 - 21 * length rs) 0) (min (5 + 21 * length rs) 341) (omega arith))
