-- Statements written into an outbox, one list after another.
use Rattle.std.proofs.Common.{◌≡◌, ℕ, suc, ◌+◌, ◌%◌, ◌<◌, ◌≤◌, eqb, List, [], ◌∷◌, ◌++◌, map, length, take, drop, set, sym, refl, ap, ◌∙◌, append_assoc, arith}
use Rattle.std.proofs.lemmas.List.{length-append, length-drop, length-take-le, take-append-drop, take_at, drop_at, drop-drop, set_split}
use Rattle.std.proofs.lemmas.Bool.{cond_both}
use Rattle.wire.specs.declared.records.Sealed.{Sealed}
use Rattle.protocol.specs.Call.{unsealed, written_over}
use Rattle.protocol.specs.Delivery.{checkpoint_of}
use Rattle.controller.specs.declared.post.Post.{Post}
use Rattle.controller.specs.Sending.{written_at, Sent}
use Rattle.controller.specs.Agree.{due}

pub written_none : (at : ℕ) (box : List Sealed) → box ≡ written_at at [] box
written_none at box = let e : at ≡ at + 0 = omega arith in sym (take-append-drop at box) ∙ ap (λ n. take at box ++ drop n box) e

pub written_one : (at : ℕ) (x : Sealed) (box : List Sealed) → at < length box → set box at x ≡ written_at at (x ∷ []) box
written_one at x box h = let e : suc at ≡ at + 1 = omega arith in set_split box at x h ∙ ap (λ n. take at box ++ x ∷ drop n box) e

pub written_more : (at : ℕ) (xs ys box : List Sealed) → at + length xs ≤ length box
    → written_at (at + length xs) ys (written_at at xs box) ≡ written_at at (xs ++ ys) box
written_more at xs ys box h =
    let rest = drop (at + length xs) box in
    let front = take at box ++ xs in
    let split : written_at at xs box ≡ front ++ rest = sym (append_assoc (take at box) xs rest) in
    let long : length front ≡ at + length xs = length-append (take at box) xs ∙ omega (arith, length-take-le at box (omega arith)) in
    let kept : take (at + length xs) (written_at at xs box) ≡ front = ap (take (at + length xs)) split ∙ take_at front rest (at + length xs) long in
    let left : drop (at + length xs) (written_at at xs box) ≡ rest = ap (drop (at + length xs)) split ∙ drop_at front rest (at + length xs) long in
    let tail : drop (at + length xs + length ys) (written_at at xs box) ≡ drop (at + length (xs ++ ys)) box =
    sym (drop-drop (length ys) (at + length xs) (written_at at xs box))
    ∙ (ap (drop (length ys)) left
    ∙ (drop-drop (length ys) (at + length xs) box
    ∙ (let n : at + length xs + length ys ≡ at + length (xs ++ ys) = omega (arith, length-append xs ys) in ap (λ k. drop k box) n))) in
    (λ i. kept i ++ (ys ++ tail i))
    ∙ (append_assoc (take at box) xs (ys ++ drop (at + length (xs ++ ys)) box)
    ∙ ap (λ l. take at box ++ l) (sym (append_assoc xs ys (drop (at + length (xs ++ ys)) box))))

pub length-written : (at : ℕ) (xs box : List Sealed) → at + length xs ≤ length box → length (written_at at xs box) ≡ length box
length-written at xs box h =
    let rest = drop (at + length xs) box in
    length-append (take at box) (xs ++ rest)
    ∙ omega (arith, length-append xs rest, length-take-le at box (omega arith), length-drop (at + length xs) box)

pub due_few : (signer number mark : ℕ) → length (map unsealed (due signer number mark)) ≤ 1
due_few signer number mark =
    cond_both (eqb (number % 16) 0) (checkpoint_of signer number mark ∷ []) [] (λ l. length (map unsealed l) ≤ 1) (λ _. omega arith) (λ _. omega arith)

-- nothing is sent
pub sent_none : (p : Post) → Sent p p []
sent_none p = record { same = refl; sent = omega arith; outbox = written_none p.sent p.outbox.now }

-- one list, and then another
pub sent_more : (p q r : Post) (xs ys zs : List Sealed) → zs ≡ xs ++ ys → p.sent + length xs ≤ length p.outbox.now → Sent p q xs → Sent q r ys → Sent p r zs
sent_more p q r xs ys zs all room a b = record {
  same = b.same ∙ a.same;
  sent = omega (arith, a.sent, b.sent, ap length all, length-append xs ys);
  outbox = b.outbox ∙ ((λ i. written_at (a.sent i) ys (a.outbox i)) ∙ (written_more p.sent xs ys p.outbox.now room ∙ ap (λ l. written_at p.sent l p.outbox.now) (sym all)));
}

-- the outbox keeps its length
pub sent_long : (p q : Post) (xs : List Sealed) → Sent p q xs → q.sent ≤ length p.outbox.now → length q.outbox.now ≡ length p.outbox.now
sent_long p q xs a room = ap length a.outbox ∙ length-written p.sent xs p.outbox.now (omega (arith, a.sent, room))

-- what is sent from an outbox's first place on
pub posted_all : (p q : Post) (xs box box' : List Sealed) → p.outbox.now ≡ box → p.sent ≡ 0 → Sent p q xs → box' ≡ q.outbox.now → (box' ≡ written_over xs box) × (q.sent ≡ length xs)
posted_all p q xs box box' at none a is =
    let n : 0 + length xs ≡ length xs = omega arith in (
      is ∙ (a.outbox ∙ ((λ i. written_at (none i) xs (at i)) ∙ ap (λ k. xs ++ drop k box) n)),
      omega (arith, a.sent, none),
    )
