-- The requests of a batch's body, one by one.
use Rattle.std.proofs.Common.{◌≡◌, ℕ, zero, suc, ◌+◌, ◌-◌, ◌*◌, ◌<◌, ◌≤◌, List, [], ◌∷◌, ◌++◌, length, get_or, take, drop, set, replicate, sym, refl, ap, ◌∙◌, append_assoc, add-one, arith}
use Rattle.std.proofs.lemmas.List.{drop-drop, set_at, get_or-take}
use Rattle.std.specs.Simd.{first_chunks}
use Rattle.wire.specs.declared.records.Request.{Request}
use Rattle.wire.specs.Bytes.{four_at, eight_at}
use Rattle.wire.specs.Kinds.{kind_of}
use Rattle.wire.specs.Frames.{request_at, requests_in, sealed_at, no_request, stored}

pub length-requests : (k : ℕ) (bs : List ℕ) → length (requests_in k bs) ≡ k
unfolding requests_in
length-requests zero bs = refl
length-requests (suc k) bs = ap suc (length-requests k (drop 21 bs))

pub one_more : (k : ℕ) (bs : List ℕ) → requests_in (suc k) bs ≡ requests_in k bs ++ request_at (drop (21 * k) bs) ∷ []
unfolding requests_in
one_more zero bs = refl
one_more (suc k) bs =
    let at : 21 + 21 * k ≡ 21 * suc k = omega arith in
    ap (λ l. request_at bs ∷ l) (one_more k (drop 21 bs) ∙ ap (λ l. requests_in k (drop 21 bs) ++ request_at l ∷ []) (drop-drop (21 * k) 21 bs ∙ ap (λ n. drop n bs) at))

-- a place more is filled
pub placed : (k : ℕ) (bs part : List ℕ) (r : Request) (xs : List Request) → k < 16 → part ≡ drop (21 * k) bs → r ≡ request_at part → xs ≡ requests_in k bs ++ replicate (16 - k) no_request
    → set xs k r ≡ requests_in (k + 1) bs ++ replicate (16 - (k + 1)) no_request
placed k bs part r xs h here is e =
    let front = requests_in k bs in
    let left : 16 - k ≡ suc (16 - (k + 1)) = omega arith in
    ap (λ l. set l k r) (e ∙ ap (λ n. front ++ replicate n no_request) left)
    ∙ (set_at front no_request (replicate (16 - (k + 1)) no_request) r k (length-requests k bs)
    ∙ (ap (λ x. front ++ x ∷ replicate (16 - (k + 1)) no_request) (is ∙ ap request_at here)
    ∙ (sym (append_assoc front (request_at (drop (21 * k) bs) ∷ []) (replicate (16 - (k + 1)) no_request))
    ∙ ap (λ l. l ++ replicate (16 - (k + 1)) no_request) (sym (one_more k bs) ∙ ap (λ n. requests_in n bs) (sym (add-one k))))))

pub all_placed : (count k : ℕ) (bs : List ℕ) (xs : List Request) → k ≡ count → xs ≡ requests_in k bs ++ replicate (16 - k) no_request
    → record { count = count; requests = xs } ≡ stored (requests_in count bs)
all_placed count k bs xs e is =
    let n = sym (length-requests count bs) in
    let there = is ∙ ap (λ m. requests_in m bs ++ replicate (16 - m) no_request) e in
    λ i. record { count = n i; requests = (there ∙ ap (λ m. requests_in count bs ++ replicate (16 - m) no_request) n) i }

-- a block of 21 bytes, and what stands in it
pub block_at : (k m : ℕ) (bs : List ℕ) → k < m → get_or (first_chunks 21 m bs) k [] ≡ take 21 (drop (21 * k) bs)
block_at k zero bs h = absurd (omega (arith, h))
block_at zero (suc m) bs h = refl
block_at (suc k) (suc m) bs h =
    let at : 21 + 21 * k ≡ 21 * suc k = omega arith in
    block_at k m (drop 21 bs) (omega (arith, h)) ∙ ap (take 21) (drop-drop (21 * k) 21 bs ∙ ap (λ n. drop n bs) at)

four_front : (n i : ℕ) (bs : List ℕ) → i + 3 < n → four_at (take n bs) i ≡ four_at bs i
four_front n i bs h =
    let at : (j : ℕ) → j ≤ 3 → get_or (take n bs) (i + j) 0 ≡ get_or bs (i + j) 0 = λ j e. get_or-take n bs (i + j) 0 (omega (arith, h, e)) in
    λ z. get_or-take n bs i 0 (omega (arith, h)) z * 16777216 + at 1 (omega arith) z * 65536 + at 2 (omega arith) z * 256 + at 3 (omega arith) z

eight_front : (n i : ℕ) (bs : List ℕ) → i + 7 < n → eight_at (take n bs) i ≡ eight_at bs i
eight_front n i bs h =
    let at : (j : ℕ) → j ≤ 7 → get_or (take n bs) (i + j) 0 ≡ get_or bs (i + j) 0 = λ j e. get_or-take n bs (i + j) 0 (omega (arith, h, e)) in
    λ z. get_or-take n bs i 0 (omega (arith, h)) z * 72057594037927936 + at 1 (omega arith) z * 281474976710656 + at 2 (omega arith) z * 1099511627776
    + at 3 (omega arith) z * 4294967296 + at 4 (omega arith) z * 16777216 + at 5 (omega arith) z * 65536 + at 6 (omega arith) z * 256 + at 7 (omega arith) z

pub request_front : (bs : List ℕ) → request_at (take 21 bs) ≡ request_at bs
request_front bs = λ z. record {
  client = get_or-take 21 bs 0 0 (omega arith) z;
  timestamp = four_front 21 1 bs (omega arith) z;
  payload = eight_front 21 5 bs (omega arith) z;
  seal = eight_front 21 13 bs (omega arith) z;
}

pub sealed_front : (kind : ℕ) (bs : List ℕ) → sealed_at kind (take 33 bs) ≡ sealed_at kind bs
sealed_front kind bs = λ z. record {
  statement = record {
    kind = kind_of kind;
    signer = get_or-take 33 bs 0 0 (omega arith) z;
    epoch = four_front 33 1 bs (omega arith) z;
    number = eight_front 33 5 bs (omega arith) z;
    held = four_front 33 13 bs (omega arith) z;
    digest = record { word = eight_front 33 17 bs (omega arith) z };
  };
  seal = eight_front 33 25 bs (omega arith) z;
}
