-- Bytes that read as a record are its writing.
use Rattle.std.proofs.Common.{◌≡◌, ℕ, zero, suc, ◌+◌, ◌-◌, ◌*◌, ◌/◌, ◌%◌, ◌<◌, ◌≤◌, min, Bool, true, false, cond, not, eqb, ltb, List, [], ◌∷◌, ◌++◌, length, get_or, drop, replicate, Ok, Result, sym, refl, ap, ◌∙◌, subst, append_assoc, arith}
use Rattle.std.specs.List.{flat_map}
use Rattle.std.proofs.lemmas.List.{get_or-drop, drop-drop, length-drop, take_at}
use Rattle.std.proofs.lemmas.Bool.{ltb-false, eqb-true, not-false}
use Rattle.wire.specs.declared.records.Sealed.{Sealed}
use Rattle.wire.specs.declared.records.Request.{Request}
use Rattle.wire.specs.declared.records.Batch.{Batch}
use Rattle.wire.specs.declared.faults.FrameFault.{FrameFault}
use Rattle.wire.specs.Bytes.{Bytes}
use Rattle.wire.specs.Frames.{sealed_at, sealed_frame, requests_in, stored, requests_of, no_request, batch_head, batch_frame, request_bytes, request_at, fault}
use Rattle.wire.specs.Kinds.{kind_of, unknown}
use Rattle.wire.proofs.KindBytes.{byte_back}
use Rattle.wire.specs.Laws.{SealedIsFrame, BatchIsFrame}
use Rattle.wire.proofs.Numbers.{first_listed, four_bytes, eight_bytes}
use Rattle.wire.proofs.Places.{length-requests}

-- a fault is no record
never : {X : Type 0} (p : ℕ) (x : X) → ◌≡◌ {A = Result X FrameFault} (fault p) (Ok x) → ⊥
never p x e = let z : ◌≡◌ {A = ℕ} 0 1 = cc in omega arith

-- what was read has passed the test before it
passed : {X : Type 0} (b : Bool) (p : ℕ) (r : Result X FrameFault) (x : X) → cond b (fault p) r ≡ Ok x → (b ≡ false) × (r ≡ Ok x)
passed true p r x e = absurd (never p x e)
passed false p r x e = (refl, e)

short : {X : Type 0} (b : Bool) (x : X) → ◌≡◌ {A = Result X FrameFault} (cond b (fault 3) (fault 2)) (Ok x) → ⊥
short true x e = never 3 x e
short false x e = never 2 x e

ok_is : {X : Type 0} (x y : X) → ◌≡◌ {A = Result X FrameFault} (Ok x) (Ok y) → x ≡ y
ok_is x y e = cc

-- what follows the kind is what the fields write
sealed_body : (kind : ℕ) (bs : List ℕ) → Bytes bs → 33 ≤ length bs → 0 ∷ 35 ∷ 1 ∷ kind ∷ bs ≡ sealed_frame (sealed_at kind bs) ++ drop 33 bs
sealed_body kind bs h e =
    ap (λ l. 0 ∷ 35 ∷ 1 ∷ kind ∷ l) (first_listed 33 bs e)
    ∙ sym (λ z. 0 ∷ 35 ∷ 1 ∷ byte_back kind z ∷ get_or bs 0 0 ∷ ((four_bytes bs 1 h z ++ (eight_bytes bs 5 h z ++ (four_bytes bs 13 h z ++ (eight_bytes bs 17 h z ++ eight_bytes bs 25 h z)))) ++ drop 33 bs))

pub sealed_exact : SealedIsFrame
sealed_exact [] s rest h e = absurd (never 2 _ e)
sealed_exact (a ∷ []) s rest h e = absurd (never 2 _ e)
sealed_exact (a ∷ b ∷ []) s rest h e = absurd (never 2 _ e)
sealed_exact (a ∷ b ∷ v ∷ []) s rest h e = absurd (short (eqb v 1) _ e)
sealed_exact (a ∷ b ∷ v ∷ k ∷ bs) s rest h e =
    let p = passed (not (eqb v 1)) 2 _ (s, rest) e in
    let q = passed (unknown (kind_of k)) 3 _ (s, rest) p.1 in
    let r = passed (not (eqb (a * 256 + b) 35)) 0 _ (s, rest) q.1 in
    let t = passed (ltb (length bs) 33) (4 + length bs) _ (s, rest) r.1 in
    let is = ok_is (sealed_at k bs, drop 33 bs) (s, rest) t.1 in
    let version : v ≡ 1 = eqb-true v 1 (not-false (eqb v 1) p.0) in
    let long : a * 256 + b ≡ 35 = eqb-true (a * 256 + b) 35 (not-false (eqb (a * 256 + b) 35) r.0) in
    let low : b < 256 = h 1 in
    let none : a ≡ 0 = omega arith in
    let all : b ≡ 35 = omega arith in
    (λ z. none z ∷ all z ∷ version z ∷ k ∷ bs)
    ∙ (sealed_body k bs (λ i. h (suc (suc (suc (suc i))))) (ltb-false (length bs) 33 t.0) ∙ ap (λ (y : Sealed × List ℕ). sealed_frame y.0 ++ y.1) is)

-- a request's bytes, and the bytes of all
request_body : (bs : List ℕ) → Bytes bs → 21 ≤ length bs → bs ≡ request_bytes (request_at bs) ++ drop 21 bs
request_body bs h e =
    first_listed 21 bs e ∙ sym (λ z. get_or bs 0 0 ∷ ((four_bytes bs 1 h z ++ (eight_bytes bs 5 h z ++ eight_bytes bs 13 h z)) ++ drop 21 bs))

requests_body : (k : ℕ) (bs : List ℕ) → Bytes bs → 21 * k ≤ length bs → bs ≡ flat_map request_bytes (requests_in k bs) ++ drop (21 * k) bs
unfolding requests_in
requests_body zero bs h e = refl
requests_body (suc k) bs h e =
    let more = drop 21 bs in
    let at : 21 + 21 * k ≡ 21 * suc k = omega arith in
    let ih = requests_body k more (λ i. subst (λ n. n < 256) (sym (get_or-drop 21 bs i 0)) (h (21 + i))) (omega (arith, length-drop 21 bs)) in
    request_body bs h (omega arith)
    ∙ (ap (λ l. request_bytes (request_at bs) ++ l) (ih ∙ ap (λ l. flat_map request_bytes (requests_in k more) ++ l) (drop-drop (21 * k) 21 bs ∙ ap (λ n. drop n bs) at))
    ∙ sym (append_assoc (request_bytes (request_at bs)) (flat_map request_bytes (requests_in k more)) (drop (21 * suc k) bs)))

-- a batch in its record is the same list
pub stored_back : (rs : List Request) → length rs ≤ 16 → requests_of (stored rs) ≡ rs
stored_back rs h = take_at rs (replicate (16 - length rs) no_request) (min (length rs) 16) (omega arith)

batch_body_is : (count : ℕ) (bs : List ℕ) → Bytes bs → count ≤ 16 → 21 * count ≤ length bs
    → batch_head count ++ bs ≡ batch_frame (requests_of (stored (requests_in count bs))) ++ drop (21 * count) bs
batch_body_is count bs h few e =
    let rs = requests_in count bs in
    let n = length-requests count bs in
    ap (λ l. batch_head count ++ l) (requests_body count bs h e)
    ∙ (ap (λ m. batch_head m ++ (flat_map request_bytes rs ++ drop (21 * count) bs)) (sym n) ∙ ap (λ l. batch_frame l ++ drop (21 * count) bs) (sym (stored_back rs (omega (arith, n)))))

pub batch_exact : BatchIsFrame
batch_exact [] b rest h e = absurd (never 2 _ e)
batch_exact (x ∷ []) b rest h e = absurd (never 2 _ e)
batch_exact (x ∷ y ∷ []) b rest h e = absurd (never 2 _ e)
batch_exact (x ∷ y ∷ v ∷ []) b rest h e = absurd (short (eqb v 1) _ e)
batch_exact (x ∷ y ∷ v ∷ k ∷ []) b rest h e =
    let p = passed (not (eqb v 1)) 2 _ (b, rest) e in
    let q = passed (not (eqb k 9)) 3 _ (b, rest) p.1 in
    absurd (never 4 (b, rest) q.1)
batch_exact (x ∷ y ∷ v ∷ k ∷ count ∷ bs) b rest h e =
    let p = passed (not (eqb v 1)) 2 _ (b, rest) e in
    let q = passed (not (eqb k 9)) 3 _ (b, rest) p.1 in
    let r = passed (ltb 16 count) 4 _ (b, rest) q.1 in
    let t = passed (not (eqb (x * 256 + y) (3 + 21 * count))) 0 _ (b, rest) r.1 in
    let u = passed (ltb (length bs) (21 * count)) (5 + length bs) _ (b, rest) t.1 in
    let is = ok_is (stored (requests_in count bs), drop (21 * count) bs) (b, rest) u.1 in
    let version : v ≡ 1 = eqb-true v 1 (not-false (eqb v 1) p.0) in
    let kind : k ≡ 9 = eqb-true k 9 (not-false (eqb k 9) q.0) in
    let few : count ≤ 16 = ltb-false 16 count r.0 in
    let long : x * 256 + y ≡ 3 + 21 * count = eqb-true (x * 256 + y) (3 + 21 * count) (not-false (eqb (x * 256 + y) (3 + 21 * count)) t.0) in
    let low : y < 256 = h 1 in
    let high : x ≡ (3 + 21 * count) / 256 = omega arith in
    let last : y ≡ (3 + 21 * count) % 256 = omega arith in
    (λ z. high z ∷ last z ∷ version z ∷ kind z ∷ count ∷ bs)
    ∙ (batch_body_is count bs (λ i. h (suc (suc (suc (suc (suc i)))))) few (ltb-false (length bs) (21 * count) u.0) ∙ ap (λ (w : Batch × List ℕ). batch_frame (requests_of w.0) ++ w.1) is)
