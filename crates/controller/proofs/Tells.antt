-- What is told on giving up, place by place.
use Rattle.std.proofs.Common.{◌≡◌, ℕ, suc, ◌+◌, ◌*◌, ◌<◌, ◌≤◌, min, List, [], ◌∷◌, ◌++◌, map, length, get_or, take, Some, Option, sym, refl, ap, ◌∙◌, append_assoc, append-nil, arith}
use Rattle.std.proofs.lemmas.List.{take_more, length-append, length-map, length-take, length-take-le, map-append}
use Rattle.wire.specs.declared.records.Sealed.{Sealed}
use Rattle.table.specs.declared.records.Place.{Place}
use Rattle.table.specs.declared.records.Vote.{Vote}
use Rattle.table.specs.declared.records.Certificate.{Certificate}
use Rattle.table.specs.Ballots.{votes_of}
use Rattle.table.specs.Places.{past}
use Rattle.controller.specs.Sound.{held_votes}
use Rattle.table.specs.declared.records.Table.{Table}
use Rattle.protocol.specs.declared.records.Core.{Core}
use Rattle.protocol.specs.State.{own}
use Rattle.protocol.specs.Call.{unsealed}
use Rattle.protocol.specs.Change.{stable_of, held_for, helds_from, prepares_for, prepares_from, evidence}
use Rattle.controller.specs.declared.post.Post.{Post}
use Rattle.controller.specs.Sending.{Sent}
use Rattle.controller.specs.Agree.{spoken, told}
use Rattle.controller.proofs.Posts.{sent_more, sent_long}
use Rattle.wire.specs.declared.kinds.Kind.TheVariants.{Prepare, Checkpoint}

pub length-helds : (signer target s : ℕ) (ps : List Place) → length (helds_from signer target s ps) ≡ length ps
length-helds signer target s [] = refl
length-helds signer target s (p ∷ ps) = ap suc (length-helds signer target (s + 1) ps)

helds_push : (signer target s : ℕ) (ps : List Place) (p : Place) → helds_from signer target s (ps ++ p ∷ []) ≡ helds_from signer target s ps ++ held_for signer target (s + length ps) p.certificate ∷ []
helds_push signer target s [] p = let e : s ≡ s + 0 = omega arith in ap (λ n. held_for signer target n p.certificate ∷ []) e
helds_push signer target s (q ∷ ps) p =
    let e : s + 1 + length ps ≡ s + length (q ∷ ps) = omega arith in
    ap (λ l. held_for signer target s q.certificate ∷ l) (helds_push signer target (s + 1) ps p ∙ ap (λ n. helds_from signer target (s + 1) ps ++ held_for signer target n p.certificate ∷ []) e)

pub helds_more : (signer target s : ℕ) (ps : List Place) (i : ℕ) → i < length ps
    → helds_from signer target s (take (i + 1) ps) ≡ helds_from signer target s (take i ps) ++ held_for signer target (s + i) (get_or ps i past).certificate ∷ []
helds_more signer target s ps i lt =
    ap (helds_from signer target s) (take_more ps i past lt)
    ∙ (helds_push signer target s (take i ps) (get_or ps i past)
    ∙ ap (λ n. helds_from signer target s (take i ps) ++ held_for signer target (s + n) (get_or ps i past).certificate ∷ []) (length-take-le i ps (omega arith)))

pub held_more : (signer target s : ℕ) (ps : List Place) (i : ℕ) (p q r : Post) (x : Sealed) → i < length ps → p.sent + length ps ≤ length p.outbox.now
    → Sent p q (map unsealed (helds_from signer target s (take i ps))) → x ≡ unsealed (held_for signer target (s + i) (get_or ps i past).certificate) → Sent q r (x ∷ [])
    → Sent p r (map unsealed (helds_from signer target s (take (i + 1) ps)))
held_more signer target s ps i p q r x lt room is hx next =
    let before = helds_from signer target s (take i ps) in
    let one = held_for signer target (s + i) (get_or ps i past).certificate in
    let long : length (map unsealed before) ≡ i = length-map before unsealed ∙ (length-helds signer target s (take i ps) ∙ length-take-le i ps (omega arith)) in
    sent_more p q r (map unsealed before) (x ∷ []) _
    (ap (map unsealed) (helds_more signer target s ps i lt) ∙ (map-append unsealed before (one ∷ []) ∙ ap (λ y. map unsealed before ++ y ∷ []) (sym hx)))
    (omega (arith, long)) is next

pub held_room : (signer target s : ℕ) (ps : List Place) (i : ℕ) (p q : Post) → i < length ps → p.sent + length ps ≤ length p.outbox.now
    → Sent p q (map unsealed (helds_from signer target s (take i ps))) → q.sent < length q.outbox.now
held_room signer target s ps i p q lt room is =
    let before = helds_from signer target s (take i ps) in
    let long : length (map unsealed before) ≡ i = length-map before unsealed ∙ (length-helds signer target s (take i ps) ∙ length-take-le i ps (omega arith)) in
    omega (arith, long, is.sent, sent_long p q (map unsealed before) is (omega (arith, long, is.sent)))

pub vote_more : (f : Vote → Sealed) (vs : List Vote) (d : Vote) (i : ℕ) (p q r : Post) (x : Sealed) → i < length vs → p.sent + length vs ≤ length p.outbox.now
    → Sent p q (map f (take i vs)) → x ≡ f (get_or vs i d) → Sent q r (x ∷ []) → Sent p r (map f (take (i + 1) vs))
vote_more f vs d i p q r x lt room is hx next =
    let long : length (map f (take i vs)) ≡ i = length-map (take i vs) f ∙ length-take-le i vs (omega arith) in
    sent_more p q r (map f (take i vs)) (x ∷ []) _
    (ap (map f) (take_more vs i d lt) ∙ (map-append f (take i vs) (get_or vs i d ∷ []) ∙ ap (λ y. map f (take i vs) ++ y ∷ []) (sym hx)))
    (omega (arith, long)) is next

prepares_push : (s : ℕ) (ps : List Place) (p : Place) → prepares_from s (ps ++ p ∷ []) ≡ prepares_from s ps ++ prepares_for (s + length ps) p.certificate
prepares_push s [] p = let e : s ≡ s + 0 = omega arith in append-nil (prepares_for s p.certificate) ∙ ap (λ n. prepares_for n p.certificate) e
prepares_push s (q ∷ ps) p =
    let e : s + 1 + length ps ≡ s + length (q ∷ ps) = omega arith in
    ap (λ l. prepares_for s q.certificate ++ l) (prepares_push (s + 1) ps p ∙ ap (λ n. prepares_from (s + 1) ps ++ prepares_for n p.certificate) e)
    ∙ sym (append_assoc (prepares_for s q.certificate) (prepares_from (s + 1) ps) (prepares_for (s + length (q ∷ ps)) p.certificate))

pub prepares_more : (s : ℕ) (ps : List Place) (i : ℕ) → i < length ps → prepares_from s (take (i + 1) ps) ≡ prepares_from s (take i ps) ++ prepares_for (s + i) (get_or ps i past).certificate
prepares_more s ps i lt =
    ap (prepares_from s) (take_more ps i past lt)
    ∙ (prepares_push s (take i ps) (get_or ps i past)
    ∙ ap (λ n. prepares_from s (take i ps) ++ prepares_for (s + n) (get_or ps i past).certificate) (length-take-le i ps (omega arith)))

-- a certificate's prepares behind those before
pub certificate_more : (s : ℕ) (ps : List Place) (i : ℕ) (p q r : Post) (xs : List Sealed) → i < length ps → length ps ≤ 32 → p.sent + 352 ≤ length p.outbox.now
    → Sent p q (prepares_from s (take i ps)) × (length (prepares_from s (take i ps)) ≤ 11 * i) → length xs ≤ 11 → xs ≡ prepares_for (s + i) (get_or ps i past).certificate → Sent q r xs
    → Sent p r (prepares_from s (take (i + 1) ps)) × (length (prepares_from s (take (i + 1) ps)) ≤ 11 * (i + 1))
certificate_more s ps i p q r xs lt long room is few same next =
    let front = prepares_from s (take i ps) in
    let all : prepares_from s (take (i + 1) ps) ≡ front ++ xs = prepares_more s ps i lt ∙ ap (λ l. front ++ l) (sym same) in
    (sent_more p q r front xs _ all (omega (arith, is.1)) is.0 next, omega (arith, ap length all, length-append front xs, is.1))

pub certificate_votes : (number : ℕ) (o : Option Certificate) (k : Certificate) (slice : List Vote) → o ≡ Some k → held_votes o ≤ 11 → slice ≡ votes_of k.prepares
    → (length slice ≡ length (prepares_for number o)) × (length slice ≤ 11) × (map (spoken Prepare k.epoch number) slice ≡ prepares_for number o)
certificate_votes number o k slice is few same =
    let all : map (spoken Prepare k.epoch number) slice ≡ prepares_for number o = ap (map (spoken Prepare k.epoch number)) same ∙ sym (ap (prepares_for number) is) in (
      sym (length-map slice (spoken Prepare k.epoch number)) ∙ ap length all,
      omega (arith, ap length same, length-take (min k.prepares.count 16) k.prepares.list, ap held_votes is),
      all,
    )

pub tell_made : (c : Core) (target signer : ℕ) (p q r : Post) (x : Sealed) → p.sent + 33 ≤ length p.outbox.now → x ≡ unsealed (stable_of (own c) target c.table.stable) → signer ≡ own c
    → Sent p q (x ∷ []) → Sent q r (map unsealed (helds_from signer target (c.table.stable + 1) c.table.places)) → Sent p r (map unsealed (told c target))
tell_made c target signer p q r x room hx hs first rest =
    let helds : ℕ → List Sealed = λ s. map unsealed (helds_from s target (c.table.stable + 1) c.table.places) in
    sent_more p q r (x ∷ []) (helds signer) _ (λ i. (sym hx i) ∷ helds (sym hs i)) (omega arith) first rest

pub show_made : (t : Table) (slice : List Vote) (p q r : Post) → slice ≡ votes_of t.proof → p.sent + length slice ≤ length p.outbox.now
    → Sent p q (map (spoken Checkpoint 0 t.stable) slice) → Sent q r (prepares_from (t.stable + 1) t.places) → Sent p r (evidence t)
show_made t slice p q r same room first rest =
    let xs = map (spoken Checkpoint 0 t.stable) slice in
    sent_more p q r xs (prepares_from (t.stable + 1) t.places) _ (ap (λ l. map (spoken Checkpoint 0 t.stable) l ++ prepares_from (t.stable + 1) t.places) (sym same))
    (omega (arith, length-map slice (spoken Checkpoint 0 t.stable))) first rest

pub told_long : (c : Core) (target : ℕ) → length c.table.places ≡ 32 → length (told c target) ≡ 33
told_long c target long = omega (arith, length-helds (own c) target (c.table.stable + 1) c.table.places)

pub told_room : (c : Core) (target : ℕ) (p q : Post) → length c.table.places ≡ 32 → p.sent + 396 ≤ length p.outbox.now → Sent p q (map unsealed (told c target))
    → (p.sent + length (map unsealed (told c target)) ≤ length p.outbox.now) × (q.sent + 363 ≤ length q.outbox.now)
told_room c target p q long room is =
    let n = length-map (told c target) unsealed ∙ told_long c target long in
    (omega (arith, n), omega (arith, n, is.sent, sent_long p q (map unsealed (told c target)) is (omega (arith, n, is.sent))))

-- no more votes behind the stable number than the largest quorum
pub proof_few : (t : Table) (slice : List Vote) → slice ≡ votes_of t.proof → t.proof.count ≤ 11 → length slice ≤ 11
proof_few t slice same few = omega (arith, ap length same, length-take (min t.proof.count 16) t.proof.list)
