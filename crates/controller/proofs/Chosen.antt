-- What a dossier chooses, number by number, and its checkpoints as votes.
use Rattle.std.proofs.Common.{◌≡◌, ℕ, zero, suc, ◌+◌, ◌<◌, ◌≤◌, eqb, List, [], ◌∷◌, ◌++◌, map, length, get_or, take, drop, set, Some, None, Option, sym, refl, ap, ◌∙◌, subst, append_assoc, arith}
use denote.Param.Members.{Mut}
use Rattle.std.specs.Fn.{Called}
use Rattle.std.specs.Array.{IsFromFnResultFrom, IsFromFnResult}
use Rattle.std.specs.List.{range_with_len}
use Rattle.std.proofs.lemmas.List.FromFn.{fill_by_all}
use Rattle.std.proofs.lemmas.List.{take_more, length-map, length-take, length-take-le, map-append}
use Rattle.std.proofs.lemmas.Bool.{cond_both}
use Rattle.wire.specs.declared.records.DigestValue.{DigestValue}
use Rattle.wire.specs.declared.records.Sealed.{Sealed}
use Rattle.seal.specs.Records.{none}
use Rattle.table.specs.declared.records.Votes.{Votes}
use Rattle.table.specs.Ballots.{with_vote, listed}
use Rattle.table.proofs.Backing.{listed_with}
use Rattle.dossier.specs.declared.parts.Opened.{Opened}
use Rattle.dossier.specs.Walk.{chosen, checkpoint_group}
use Rattle.protocol.specs.declared.records.Core.{Core}
use Rattle.protocol.specs.State.{size, enough}
use Rattle.controller.specs.Sound.{Sound}
use Rattle.protocol.specs.Call.{unsealed}
use Rattle.protocol.specs.Enter.{as_vote, base_proof, choices, prepares_chosen}
use Rattle.controller.specs.declared.post.Post.{Post}
use Rattle.controller.specs.Sending.{Sent}
use Rattle.controller.specs.Agree.{enter_table, enter_chosen, enter_core}
use Rattle.controller.proofs.Posts.{sent_more, sent_long}
use Rattle.controller.proofs.Kept.{Tame, few_entered}
use Rattle.controller.proofs.Passes.{tame}
use Rattle.controller.proofs.Votings.{quorum_low, tame_move}

pub votes_more : (xs : List Sealed) (i : ℕ) (w w' : Votes) → i < length xs → length xs ≤ 16 → w ≡ listed (map as_vote (take i xs))
    → w' ≡ with_vote w (as_vote (get_or xs i none))
    → w' ≡ listed (map as_vote (take (i + 1) xs))
votes_more xs i w w' lt few is was =
    let vs = map as_vote (take i xs) in
    let long = length-map (take i xs) as_vote ∙ length-take-le i xs (omega arith) in
    was
    ∙ (listed_with vs (as_vote (get_or xs i none)) w (omega arith) is
    ∙ ap listed (sym (ap (map as_vote) (take_more xs i none lt) ∙ map-append as_vote (take i xs) (get_or xs i none ∷ []))))

-- CHOICES

pub choices_map : (o : Opened) (s k n : ℕ) → choices o (s + n) k ≡ map (λ i. chosen o (s + i)) (range_with_len n k)
unfolding choices
choices_map o s zero n = refl
choices_map o s (suc k) n =
    let e : s + n + 1 ≡ s + (n + 1) = omega arith in
    ap (λ l. chosen o (s + n) ∷ l) (ap (λ m. choices o m k) e ∙ choices_map o s k (n + 1))

-- what calls at each number gave, where each call leaves the closure as it was
made_each : {F B : Type 0} (g : Mut F (ℕ × Unit {0}) B) (f : F) (ys : List B) (h : ℕ → B) (d : B) → ((k : ℕ) (y : B) (q : F) → Called g f (k, tt) y q → (q ≡ f) × (y ≡ h k))
    → (i n : ℕ) (p : F) → p ≡ f → IsFromFnResultFrom g p ys i n → (k : ℕ) → k < n → get_or ys (i + k) d ≡ h (i + k)
made_each g f ys h d same i zero p e is k lt = absurd (omega arith)
made_each g f ys h d same i (suc n) p e is zero lt =
    let now : i + 0 ≡ i = omega arith in
    let did = same i is.1 is.0 (subst (λ z. Called g z (i, tt) is.1 is.0) e is.3) in
    ap (λ j. get_or ys j d) now ∙ (is.2.1 d ∙ (did.1 ∙ sym (ap h now)))
made_each g f ys h d same i (suc n) p e is (suc k) lt =
    let next : i + suc k ≡ i + 1 + k = omega arith in
    let did = same i is.1 is.0 (subst (λ z. Called g z (i, tt) is.1 is.0) e is.3) in
    ap (λ j. get_or ys j d) next ∙ (made_each g f ys h d same (i + 1) n is.0 did.0 is.4 k (omega arith) ∙ sym (ap h next))

pub made_by : {F B : Type 0} (g : Mut F (ℕ × Unit {0}) B) (f : F) (ys : List B) (h : ℕ → B) (d : B) (n : ℕ) → ((k : ℕ) (y : B) (q : F) → Called g f (k, tt) y q → (q ≡ f) × (y ≡ h k))
    → IsFromFnResult g f ys n → ys ≡ map h (range_with_len 0 n)
made_by g f ys h d n same is =
    fill_by_all h ys n d is.long (λ k lt. let e : k ≡ 0 + k = omega arith in ap (λ j. get_or ys j d) e ∙ (made_each g f ys h d same 0 n f refl is.each k lt ∙ sym (ap h e)))

-- PREPARES

chosen_append : (signer epoch s : ℕ) (o : Option DigestValue) (l : List (Option DigestValue)) → prepares_chosen signer epoch s (o ∷ l) ≡ prepares_chosen signer epoch s (o ∷ []) ++ prepares_chosen signer epoch (s + 1) l
chosen_append signer epoch s None l = refl
chosen_append signer epoch s (Some d) l = refl

chosen_push : (signer epoch s : ℕ) (ds : List (Option DigestValue)) (o : Option DigestValue)
    → prepares_chosen signer epoch s (ds ++ o ∷ []) ≡ prepares_chosen signer epoch s ds ++ prepares_chosen signer epoch (s + length ds) (o ∷ [])
chosen_push signer epoch s [] o = let e : s ≡ s + 0 = omega arith in ap (λ n. prepares_chosen signer epoch n (o ∷ [])) e
chosen_push signer epoch s (d ∷ ds) o =
    let e : s + 1 + length ds ≡ s + length (d ∷ ds) = omega arith in
    let front = prepares_chosen signer epoch s (d ∷ []) in
    chosen_append signer epoch s d (ds ++ o ∷ [])
    ∙ (ap (λ l. front ++ l) (chosen_push signer epoch (s + 1) ds o ∙ ap (λ n. prepares_chosen signer epoch (s + 1) ds ++ prepares_chosen signer epoch n (o ∷ [])) e)
    ∙ (sym (append_assoc front (prepares_chosen signer epoch (s + 1) ds) (prepares_chosen signer epoch (s + length (d ∷ ds)) (o ∷ [])))
    ∙ ap (λ l. l ++ prepares_chosen signer epoch (s + length (d ∷ ds)) (o ∷ [])) (sym (chosen_append signer epoch s d ds))))

pub chosen_more : (signer epoch s : ℕ) (ds : List (Option DigestValue)) (i : ℕ) → i < length ds
    → prepares_chosen signer epoch s (take (i + 1) ds) ≡ prepares_chosen signer epoch s (take i ds) ++ prepares_chosen signer epoch (s + i) (get_or ds i None ∷ [])
chosen_more signer epoch s ds i lt =
    ap (prepares_chosen signer epoch s) (take_more ds i None lt)
    ∙ (chosen_push signer epoch s (take i ds) (get_or ds i None)
    ∙ ap (λ m. prepares_chosen signer epoch s (take i ds) ++ prepares_chosen signer epoch (s + m) (get_or ds i None ∷ [])) (length-take-le i ds (omega arith)))

few_chosen : (signer epoch s : ℕ) (ds : List (Option DigestValue)) → length (prepares_chosen signer epoch s ds) ≤ length ds
few_chosen signer epoch s [] = omega arith
few_chosen signer epoch s (None ∷ ds) = omega (arith, few_chosen signer epoch (s + 1) ds)
few_chosen signer epoch s (Some d ∷ ds) = omega (arith, few_chosen signer epoch (s + 1) ds)

pub issued_few : (signer epoch s : ℕ) (ds : List (Option DigestValue)) (i : ℕ) → i ≤ length ds → length (map unsealed (prepares_chosen signer epoch s (take i ds))) ≤ i
issued_few signer epoch s ds i h =
    let before = prepares_chosen signer epoch s (take i ds) in
    omega (arith, length-map before unsealed, few_chosen signer epoch s (take i ds), length-take-le i ds h)

-- the next number's prepare, where it has a choice
pub issued_more : (signer epoch s : ℕ) (ds : List (Option DigestValue)) (i : ℕ) (p q r : Post) (xs : List Sealed) → i < length ds → p.sent + length ds ≤ length p.outbox.now
    → Sent p q (map unsealed (prepares_chosen signer epoch s (take i ds))) → xs ≡ map unsealed (prepares_chosen signer epoch (s + i) (get_or ds i None ∷ [])) → Sent q r xs
    → Sent p r (map unsealed (prepares_chosen signer epoch s (take (i + 1) ds)))
issued_more signer epoch s ds i p q r xs lt room is same next =
    let before = prepares_chosen signer epoch s (take i ds) in
    let one = prepares_chosen signer epoch (s + i) (get_or ds i None ∷ []) in
    sent_more p q r (map unsealed before) xs _
    (ap (map unsealed) (chosen_more signer epoch s ds i lt) ∙ (map-append unsealed before one ∙ ap (λ l. map unsealed before ++ l) (sym same)))
    (omega (arith, issued_few signer epoch s ds i (omega arith))) is next

pub issued_room : (signer epoch s : ℕ) (ds : List (Option DigestValue)) (i : ℕ) (p q : Post) → i < length ds → p.sent + length ds ≤ length p.outbox.now
    → Sent p q (map unsealed (prepares_chosen signer epoch s (take i ds))) → q.sent < length q.outbox.now
issued_room signer epoch s ds i p q lt room is =
    let few = issued_few signer epoch s ds i (omega arith) in
    omega (arith, few, is.sent, sent_long p q (map unsealed (prepares_chosen signer epoch s (take i ds))) is (omega (arith, few, is.sent)))

-- THE WHOLE

pub group_few : (c : Core) (records : List Sealed) (o : Opened) → length (checkpoint_group (enough c) records o) ≤ 11
group_few c records o =
    let n = quorum_low (size c) c.house.few in
    cond_both (eqb o.base 0) [] (take (enough c) (drop (enough c) records)) (λ l. length l ≤ 11) (λ _. omega arith)
    (λ _. omega (arith, length-take (enough c) (drop (enough c) records)))

pub enter_tame : (c : Core) (records : List Sealed) (o : Opened) → Sound c → o.base ≤ 1000000000000 → Tame (enter_table c records o)
enter_tame c records o h low =
    tame_move c.table o.base (base_proof (enough c) records o) (tame c h) low
    (omega (arith, length-map (checkpoint_group (enough c) records o) as_vote, group_few c records o))

pub enter_sound : (c : Core) (new : Sealed) (records : List Sealed) (o : Opened) → Sound c → o.base ≤ 1000000000000 → Sound (enter_core c new records o)
enter_sound c new records o h low =
    let t = enter_tame c records o h low in
    (t.stable, h.1, t.proof, few_entered 0 (enter_chosen c records o) (enter_table c records o).places t.few)
