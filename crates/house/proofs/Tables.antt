-- What the primitives of the table do to the place of each number.
use Rattle.std.proofs.Common.{◌≡◌, ℕ, zero, suc, ◌+◌, ◌-◌, ◌/◌, ◌<◌, ◌≤◌, min, true, false, cond, ltb, leb, ◌⊎◌, List, [], ◌∷◌, ◌++◌, length, get_or, drop, set, replicate, Some, None, Option, sym, refl, ap, ◌∙◌, subst, inl, inr, ⊎_elim, arith}
use Rattle.std.proofs.lemmas.List.{length-set, length-drop, length-append, length-replicate, get_or-set_same, get_or-set_other, get_or-drop, get_or_append_left, get_or-append_right, get_or-replicate}
use Rattle.std.proofs.lemmas.Bool.{cases_Bool, cases_eq, cases_lt, cond-true, cond-false, cond_both, and_parts, and_from, and_left, and_right, ltb-true, leb-true, lt-ltb, le-ltb, le-leb, lt-leb}
use Rattle.wire.specs.declared.records.DigestValue.{DigestValue}
use Rattle.wire.specs.declared.records.Statement.{Statement}
use Rattle.wire.specs.declared.records.Batch.{Batch}
use Rattle.table.specs.declared.records.Certificate.{Certificate}
use Rattle.table.specs.declared.records.Votes.{Votes}
use Rattle.table.specs.declared.records.Place.{Place}
use Rattle.table.specs.declared.records.Table.{Table}
use Rattle.table.specs.Ballots.{no_ballots}
use Rattle.table.specs.Places.{past, empty_place, filled, certified, entered, all_entered}
use Rattle.table.specs.Window.{new_table, in_window, place_at, with_place, fill_at, certify_at, shifted, move_to, enter_all}
use Rattle.table.proofs.Entering.{length-entered}
use Rattle.dossier.specs.declared.parts.Opened.{Opened}
use Rattle.dossier.specs.Walk.{chosen}
use Rattle.protocol.specs.declared.records.Core.{Core}
use Rattle.protocol.specs.Offer.{prepare_of}
use Rattle.protocol.specs.Change.{held_for, helds_from}
use Rattle.protocol.specs.Enter.{choices, prepares_chosen}
use Rattle.house.specs.Runs.{Has}
use Rattle.house.proofs.Sketch.{Sketch}

abbrev pub Long : Table → Type 0
Long t = length t.places ≡ 32

abbrev pub cert_epoch : Option Certificate → ℕ
cert_epoch None = 0
cert_epoch (Some k) = k.epoch

-- what a number is filled with, and the epoch of its certificate
abbrev pub filled_of : Table → ℕ → Option DigestValue
filled_of t s = cond (in_window t s) (place_at t s).proposal None

abbrev pub cert_of : Table → ℕ → ℕ
cert_of t s = cond (in_window t s) (cert_epoch (place_at t s).certificate) 0

abbrev pub sketch_of : Core → Sketch
sketch_of c = record {
  epoch = c.view.epoch;
  changing = c.view.changing;
  first = c.view.first;
  last = c.view.last;
  stable = c.table.stable;
  filled = filled_of c.table;
  cert = cert_of c.table;
}

-- THE WINDOW

pub window_parts : (t : Table) (s : ℕ) → in_window t s ≡ true → (t.stable < s) × (s ≤ t.stable + 32)
window_parts t s e =
    let k = and_parts (ltb t.stable s) (leb s (t.stable + 32)) e in
    (ltb-true t.stable s k.0, leb-true s (t.stable + 32) k.1)

pub window_from : (t : Table) (s : ℕ) → t.stable < s → s ≤ t.stable + 32 → in_window t s ≡ true
window_from t s a b = and_from (ltb t.stable s) (leb s (t.stable + 32)) (lt-ltb t.stable s a) (le-leb s (t.stable + 32) b)

pub window_not : (t : Table) (s : ℕ) → s ≤ t.stable → in_window t s ≡ false
window_not t s h = and_left (ltb t.stable s) (leb s (t.stable + 32)) (le-ltb t.stable s h)

-- AN UPDATE OF ONE PLACE

abbrev placed : Table → ℕ → Place → Table
placed t s p = record { stable = t.stable; proof = t.proof; rows = t.rows; places = set t.places (s - t.stable - 1) p }

with_inside : (t : Table) (s : ℕ) (p : Place) → in_window t s ≡ true → with_place t s p ≡ placed t s p
with_inside t s p e = cond-true (in_window t s) (placed t s p) t e

with_outside : (t : Table) (s : ℕ) (p : Place) → in_window t s ≡ false → with_place t s p ≡ t
with_outside t s p e = cond-false (in_window t s) (placed t s p) t e

pub with_long : (t : Table) (s : ℕ) (p : Place) → Long t → Long (with_place t s p)
with_long t s p l = cond_both (in_window t s) (placed t s p) t Long (λ e. length-set t.places (s - t.stable - 1) p ∙ l) (λ e. l)

pub with_stable : (t : Table) (s : ℕ) (p : Place) → (with_place t s p).stable ≡ t.stable
with_stable t s p = cond_both (in_window t s) (placed t s p) t (λ u. u.stable ≡ t.stable) (λ e. refl) (λ e. refl)

pub with_window : (t : Table) (s : ℕ) (p : Place) (x : ℕ) → in_window (with_place t s p) x ≡ in_window t x
with_window t s p x = cond_both (in_window t s) (placed t s p) t (λ u. in_window u x ≡ in_window t x) (λ e. refl) (λ e. refl)

pub with_here : (t : Table) (s : ℕ) (p : Place) → Long t → in_window t s ≡ true → place_at (with_place t s p) s ≡ p
with_here t s p l e =
    let k = window_parts t s e in
    let at : s - t.stable - 1 < length t.places = omega arith in
    ap (λ u. place_at u s) (with_inside t s p e) ∙ get_or-set_same t.places (s - t.stable - 1) p past at

pub with_else : (t : Table) (s : ℕ) (p : Place) (x : ℕ) → in_window t s ≡ true → in_window t x ≡ true → (x ≡ s → ⊥) → place_at (with_place t s p) x ≡ place_at t x
with_else t s p x e f n =
    let k = window_parts t s e in
    let m = window_parts t x f in
    ap (λ u. place_at u x) (with_inside t s p e)
    ∙ get_or-set_other t.places (s - t.stable - 1) (x - t.stable - 1) p past (λ q. n (omega arith))

-- ANOTHER STABLE NUMBER

abbrev moved : Table → ℕ → Votes → Table
moved t s v = record {
  stable = s;
  proof = v;
  rows = shifted 2 ((s - t.stable) / 16) no_ballots t.rows;
  places = shifted 32 (s - t.stable) empty_place t.places;
}

move_higher : (t : Table) (s : ℕ) (v : Votes) → t.stable < s → move_to t s v ≡ moved t s v
move_higher t s v h = cond-true (ltb t.stable s) (moved t s v) t (lt-ltb t.stable s h)

pub move_lower : (t : Table) (s : ℕ) (v : Votes) → s ≤ t.stable → move_to t s v ≡ t
move_lower t s v h = cond-false (ltb t.stable s) (moved t s v) t (le-ltb t.stable s h)

pub move_stable : (t : Table) (s : ℕ) (v : Votes) → t.stable < s → (move_to t s v).stable ≡ s
move_stable t s v h = ap (λ u. u.stable) (move_higher t s v h)

shifted_long : (k : ℕ) (ps : List Place) → length ps ≡ 32 → length (shifted 32 k empty_place ps) ≡ 32
shifted_long k ps l =
    let a = length-append (drop (min k 32) ps) (replicate (min k 32) empty_place) in
    let b = length-drop (min k 32) ps in
    let c = length-replicate (min k 32) empty_place in
    omega arith

shifted_kept : (k : ℕ) (ps : List Place) (i : ℕ) → length ps ≡ 32 → k + i < 32 → get_or (shifted 32 k empty_place ps) i past ≡ get_or ps (k + i) past
shifted_kept k ps i l h =
    let b = length-drop (min k 32) ps in
    let m : min k 32 + i ≡ k + i = omega arith in
    let low : i < length (drop (min k 32) ps) = omega arith in
    get_or_append_left (drop (min k 32) ps) (replicate (min k 32) empty_place) past i low
    ∙ (get_or-drop (min k 32) ps i past
    ∙ ap (λ j. get_or ps j past) m)

shifted_new : (k : ℕ) (ps : List Place) (i : ℕ) → length ps ≡ 32 → 32 ≤ k + i → i < 32 → get_or (shifted 32 k empty_place ps) i past ≡ empty_place
shifted_new k ps i l h g =
    let b = length-drop (min k 32) ps in
    let n : length (drop (min k 32) ps) ≡ 32 - min k 32 = omega arith in
    let low : 32 - min k 32 ≤ i = omega arith in
    let high : i - (32 - min k 32) < min k 32 = omega arith in
    get_or-append_right (drop (min k 32) ps) (replicate (min k 32) empty_place) (32 - min k 32) i past n low
    ∙ get_or-replicate (min k 32) (i - (32 - min k 32)) empty_place past high

pub move_long : (t : Table) (s : ℕ) (v : Votes) → Long t → Long (move_to t s v)
move_long t s v l = cond_both (ltb t.stable s) (moved t s v) t Long (λ e. shifted_long (s - t.stable) t.places l) (λ e. l)

pub move_kept : (t : Table) (s : ℕ) (v : Votes) (x : ℕ) → Long t → t.stable < s → s < x → x ≤ t.stable + 32 → place_at (move_to t s v) x ≡ place_at t x
move_kept t s v x l h a b =
    let in_it : s - t.stable + (x - s - 1) < 32 = omega arith in
    let at : s - t.stable + (x - s - 1) ≡ x - t.stable - 1 = omega arith in
    ap (λ u. place_at u x) (move_higher t s v h)
    ∙ (shifted_kept (s - t.stable) t.places (x - s - 1) l in_it
    ∙ ap (λ j. get_or t.places j past) at)

pub move_new : (t : Table) (s : ℕ) (v : Votes) (x : ℕ) → Long t → t.stable < s → s < x → t.stable + 32 < x → x ≤ s + 32 → place_at (move_to t s v) x ≡ empty_place
move_new t s v x l h a b c =
    let low : 32 ≤ s - t.stable + (x - s - 1) = omega arith in
    let high : x - s - 1 < 32 = omega arith in
    ap (λ u. place_at u x) (move_higher t s v h) ∙ shifted_new (s - t.stable) t.places (x - s - 1) l low high

-- ANOTHER EPOCH

pub enter_long : (t : Table) (cs : List (Option DigestValue)) → Long t → Long (enter_all t cs)
enter_long t cs l = length-entered 0 cs t.places ∙ l

entered_at : (k : ℕ) (cs : List (Option DigestValue)) (ps : List Place) (i : ℕ) → i < length ps → get_or (all_entered k cs ps) i past ≡ entered (get_or cs (k + i) None) (get_or ps i past)
entered_at k cs [] i h = absurd (omega arith)
entered_at k cs (p ∷ ps) zero h = let e : k ≡ k + 0 = omega arith in ap (λ j. entered (get_or cs j None) p) e
entered_at k cs (p ∷ ps) (suc i) h =
    let e : k + 1 + i ≡ k + suc i = omega arith in
    let below : i < length ps = omega arith in
    entered_at (k + 1) cs ps i below ∙ ap (λ j. entered (get_or cs j None) (get_or ps i past)) e

pub enter_place : (t : Table) (cs : List (Option DigestValue)) (x : ℕ) → Long t → in_window t x ≡ true → place_at (enter_all t cs) x ≡ entered (get_or cs (x - t.stable - 1) None) (place_at t x)
enter_place t cs x l w =
    let k = window_parts t x w in
    let below : x - t.stable - 1 < length t.places = omega arith in
    let e : 0 + (x - t.stable - 1) ≡ x - t.stable - 1 = omega arith in
    entered_at 0 cs t.places (x - t.stable - 1) below ∙ ap (λ j. entered (get_or cs j None) (place_at t x)) e

pub choices_at : (o : Opened) (s k i : ℕ) → i < k → get_or (choices o s k) i None ≡ chosen o (s + i)
unfolding choices
choices_at o s zero i h = absurd (omega arith)
choices_at o s (suc k) zero h = let e : s ≡ s + 0 = omega arith in ap (chosen o) e
choices_at o s (suc k) (suc i) h =
    let e : s + 1 + i ≡ s + suc i = omega arith in
    let below : i < k = omega arith in
    choices_at o (s + 1) k i below ∙ ap (chosen o) e

pub choices_past : (o : Opened) (s k i : ℕ) → k ≤ i → get_or (choices o s k) i None ≡ None
unfolding choices
choices_past o s zero i h = refl
choices_past o s (suc k) zero h = absurd (omega arith)
choices_past o s (suc k) (suc i) h = let le : k ≤ i = omega arith in choices_past o (s + 1) k i le

-- THE NEW TABLE

pub new_long : Long new_table
unfolding new_table
new_long = length-replicate 32 empty_place

pub new_place : (s : ℕ) → in_window new_table s ≡ true → place_at new_table s ≡ empty_place
unfolding new_table
new_place s e =
    let k = window_parts new_table s e in
    let below : s - 0 - 1 < 32 = omega arith in
    get_or-replicate 32 (s - 0 - 1) empty_place past below

-- WHAT STANDS IN A LIST

pub has_append : {A : Type 0} (xs ys : List A) (a : A) → Has (xs ++ ys) a → Has xs a ⊎ Has ys a
has_append [] ys a h = inr h
has_append (x ∷ xs) ys a (inl e) = inl (inl e)
has_append (x ∷ xs) ys a (inr h) = ⊎_elim (λ k. inl (inr k)) (λ k. inr k) (has_append xs ys a h)

pub has_left : {A : Type 0} (xs ys : List A) (a : A) → Has xs a → Has (xs ++ ys) a
has_left [] ys a h = absurd h
has_left (x ∷ xs) ys a (inl e) = inl e
has_left (x ∷ xs) ys a (inr h) = inr (has_left xs ys a h)

pub has_right : {A : Type 0} (xs ys : List A) (a : A) → Has ys a → Has (xs ++ ys) a
has_right [] ys a h = h
has_right (x ∷ xs) ys a h = inr (has_right xs ys a h)

-- the prepares of an entry: one for each choice
pub prepares_only : (signer e s : ℕ) (ds : List (Option DigestValue)) (a : Statement) → Has (prepares_chosen signer e s ds) a
    → (i : ℕ) × (d : DigestValue) × (get_or ds i None ≡ Some d) × (a ≡ prepare_of signer e (s + i) d)
prepares_only signer e s [] a h = absurd h
prepares_only signer e s (None ∷ ds) a h =
    let r = prepares_only signer e (s + 1) ds a h in
    let n : s + 1 + r.0 ≡ s + suc r.0 = omega arith in
    (suc r.0, r.1, r.2, r.3 ∙ ap (λ m. prepare_of signer e m r.1) n)
prepares_only signer e s (Some d ∷ ds) a (inl k) =
    let n : s ≡ s + 0 = omega arith in
    (0, d, refl, sym k ∙ ap (λ m. prepare_of signer e m d) n)
prepares_only signer e s (Some d ∷ ds) a (inr h) =
    let r = prepares_only signer e (s + 1) ds a h in
    let n : s + 1 + r.0 ≡ s + suc r.0 = omega arith in
    (suc r.0, r.1, r.2, r.3 ∙ ap (λ m. prepare_of signer e m r.1) n)

none_some : (d : DigestValue) → ◌≡◌ {A = Option DigestValue} None (Some d) → ⊥
none_some d k = let z : ◌≡◌ {A = ℕ} 0 1 = cc in omega arith

some_same : (c d : DigestValue) → ◌≡◌ {A = Option DigestValue} (Some c) (Some d) → c ≡ d
some_same c d k = cc

pub prepares_each : (signer e s : ℕ) (ds : List (Option DigestValue)) (i : ℕ) (d : DigestValue) → get_or ds i None ≡ Some d
    → Has (prepares_chosen signer e s ds) (prepare_of signer e (s + i) d)
prepares_each signer e s [] i d k = absurd (none_some d k)
prepares_each signer e s (None ∷ ds) zero d k = absurd (none_some d k)
prepares_each signer e s (Some c ∷ ds) zero d k =
    let n : s ≡ s + 0 = omega arith in
    inl (λ j. prepare_of signer e (n j) (some_same c d k j))
prepares_each signer e s (None ∷ ds) (suc i) d k =
    let n : s + 1 + i ≡ s + suc i = omega arith in
    subst (λ m. Has (prepares_chosen signer e (s + 1) ds) (prepare_of signer e m d)) n (prepares_each signer e (s + 1) ds i d k)
prepares_each signer e s (Some c ∷ ds) (suc i) d k =
    let n : s + 1 + i ≡ s + suc i = omega arith in
    inr (subst (λ m. Has (prepares_chosen signer e (s + 1) ds) (prepare_of signer e m d)) n (prepares_each signer e (s + 1) ds i d k))

-- what is told of the certificates: one statement for each place
pub helds_only : (signer target s : ℕ) (ps : List Place) (a : Statement) → Has (helds_from signer target s ps) a
    → (i : ℕ) × (i < length ps) × (a ≡ held_for signer target (s + i) (get_or ps i past).certificate)
helds_only signer target s [] a h = absurd h
helds_only signer target s (p ∷ ps) a (inl k) =
    let n : s ≡ s + 0 = omega arith in
    (0, omega arith, sym k ∙ ap (λ m. held_for signer target m p.certificate) n)
helds_only signer target s (p ∷ ps) a (inr h) =
    let r = helds_only signer target (s + 1) ps a h in
    let n : s + 1 + r.0 ≡ s + suc r.0 = omega arith in
    let below : suc r.0 < length (p ∷ ps) = omega (arith, r.1) in
    (suc r.0, below, r.2 ∙ ap (λ m. held_for signer target m (get_or ps r.0 past).certificate) n)

-- THE SKETCH

window_over : (t : Table) (s : ℕ) → t.stable + 32 < s → in_window t s ≡ false
window_over t s h = and_right (ltb t.stable s) (leb s (t.stable + 32)) (lt-leb s (t.stable + 32) h)

-- what is seen of the places by way of one look at each
module _ {A : Type 0} (look : Place → A) (none : A) where
  abbrev seen : Table → ℕ → A
  seen t x = cond (in_window t x) (look (place_at t x)) none

  seen_in : (t : Table) (x : ℕ) → in_window t x ≡ true → seen t x ≡ look (place_at t x)
  seen_in t x e = cond-true (in_window t x) (look (place_at t x)) none e

  seen_out : (t : Table) (x : ℕ) → in_window t x ≡ false → seen t x ≡ none
  seen_out t x e = cond-false (in_window t x) (look (place_at t x)) none e

  seen_here : (t : Table) (s : ℕ) (p : Place) → Long t → in_window t s ≡ true → seen (with_place t s p) s ≡ look p
  seen_here t s p l e = seen_in (with_place t s p) s (with_window t s p s ∙ e) ∙ ap look (with_here t s p l e)

  seen_else : (t : Table) (s : ℕ) (p : Place) (x : ℕ) → (x ≡ s → ⊥) → seen (with_place t s p) x ≡ seen t x
  seen_else t s p x n = go (cases_Bool (in_window t s)) (cases_Bool (in_window t x))
    where
      go : (in_window t s ≡ true) ⊎ (in_window t s ≡ false) → (in_window t x ≡ true) ⊎ (in_window t x ≡ false) → seen (with_place t s p) x ≡ seen t x
      go (inr e) h = ap (λ u. seen u x) (with_outside t s p e)
      go (inl e) (inr f) = seen_out (with_place t s p) x (with_window t s p x ∙ f) ∙ sym (seen_out t x f)
      go (inl e) (inl f) = seen_in (with_place t s p) x (with_window t s p x ∙ f) ∙ (ap look (with_else t s p x e f n) ∙ sym (seen_in t x f))

  seen_keep : (t : Table) (s : ℕ) (p : Place) → Long t → look p ≡ look (place_at t s) → (x : ℕ) → seen (with_place t s p) x ≡ seen t x
  seen_keep t s p l k x = go (cases_Bool (in_window t s)) (cases_eq x s)
    where
      go : (in_window t s ≡ true) ⊎ (in_window t s ≡ false) → (x ≡ s) ⊎ (x ≡ s → ⊥) → seen (with_place t s p) x ≡ seen t x
      go (inr e) h = ap (λ u. seen u x) (with_outside t s p e)
      go (inl e) (inr n) = seen_else t s p x n
      go (inl e) (inl q) = subst (λ y. seen (with_place t s p) y ≡ seen t y) (sym q) (seen_here t s p l e ∙ (k ∙ sym (seen_in t s e)))

  seen_move : (t : Table) (s : ℕ) (v : Votes) → Long t → look empty_place ≡ none → (x : ℕ) → (move_to t s v).stable < x → seen (move_to t s v) x ≡ seen t x
  seen_move t s v l k x h = go (cases_lt t.stable s)
    where
      new : t.stable < s → s < x → t.stable + 32 < x → (x ≤ s + 32) ⊎ (s + 32 < x) → seen (move_to t s v) x ≡ none
      new a b c (inl d) =
          let w = window_from (moved t s v) x b d in
          seen_in (move_to t s v) x (ap (λ u. in_window u x) (move_higher t s v a) ∙ w) ∙ (ap look (move_new t s v x l a b c d) ∙ k)
      new a b c (inr d) = seen_out (move_to t s v) x (ap (λ u. in_window u x) (move_higher t s v a) ∙ window_over (moved t s v) x d)

      far : (y z : ℕ) → (z ≤ y) ⊎ (y < z)
      far y z = ⊎_elim (λ m. inr m) (λ m. inl m) (cases_lt y z)

      high : t.stable < s → s < x → (x ≤ t.stable + 32) ⊎ (t.stable + 32 < x) → seen (move_to t s v) x ≡ seen t x
      high a b (inl c) =
          let w = window_from (moved t s v) x b (omega arith) in
          seen_in (move_to t s v) x (ap (λ u. in_window u x) (move_higher t s v a) ∙ w)
          ∙ (ap look (move_kept t s v x l a b c) ∙ sym (seen_in t x (window_from t x (omega arith) c)))
      high a b (inr c) = new a b c (far (s + 32) x) ∙ sym (seen_out t x (window_over t x c))

      go : (t.stable < s) ⊎ (s ≤ t.stable) → seen (move_to t s v) x ≡ seen t x
      go (inr a) = ap (λ u. seen u x) (move_lower t s v a)
      go (inl a) = let b : s < x = subst (λ m. m < x) (move_stable t s v a) h in high a b (far (t.stable + 32) x)

abbrev cert_look : Place → ℕ
cert_look p = cert_epoch p.certificate

abbrev proposal_look : Place → Option DigestValue
proposal_look p = p.proposal

-- a place with the same proposal and the same certificate changes nothing
pub keep_sketch : (t : Table) (s : ℕ) (p : Place) → Long t → p.proposal ≡ (place_at t s).proposal → p.certificate ≡ (place_at t s).certificate
    → ((x : ℕ) → filled_of (with_place t s p) x ≡ filled_of t x) × ((x : ℕ) → cert_of (with_place t s p) x ≡ cert_of t x)
keep_sketch t s p l f k = (seen_keep proposal_look None t s p l f, seen_keep cert_look 0 t s p l (ap cert_epoch k))

pub fill_table : (t : Table) (s : ℕ) (d : DigestValue) (b : Option Batch) → Long t → in_window t s ≡ true
    → (filled_of (fill_at t s d b) s ≡ Some d)
    × ((x : ℕ) → (x ≡ s → ⊥) → filled_of (fill_at t s d b) x ≡ filled_of t x)
    × ((x : ℕ) → cert_of (fill_at t s d b) x ≡ cert_of t x)
fill_table t s d b l w =
    let p = filled d b (place_at t s) in
    (seen_here proposal_look None t s p l w, seen_else proposal_look None t s p, seen_keep cert_look 0 t s p l refl)

pub fill_sketch : (c : Core) (s : ℕ) (d : DigestValue) (b : Option Batch) → Long c.table → in_window c.table s ≡ true
    → (filled_of (fill_at c.table s d b) s ≡ Some d)
    × ((x : ℕ) → (x ≡ s → ⊥) → filled_of (fill_at c.table s d b) x ≡ filled_of c.table x)
    × ((x : ℕ) → cert_of (fill_at c.table s d b) x ≡ cert_of c.table x)
fill_sketch c s d b l w = fill_table c.table s d b l w

pub certify_sketch : (t : Table) (s e : ℕ) (d : DigestValue) → Long t → in_window t s ≡ true
    → ((x : ℕ) → filled_of (certify_at t s e d) x ≡ filled_of t x)
    × (cert_of (certify_at t s e d) s ≡ e)
    × ((x : ℕ) → (x ≡ s → ⊥) → cert_of (certify_at t s e d) x ≡ cert_of t x)
certify_sketch t s e d l w =
    let p = certified e d (place_at t s) in
    (seen_keep proposal_look None t s p l refl, seen_here cert_look 0 t s p l w, seen_else cert_look 0 t s p)

-- what is above the stable number stays where another number becomes stable
pub move_sketch : (t : Table) (s : ℕ) (v : Votes) → Long t → (x : ℕ) → (move_to t s v).stable < x
    → (filled_of (move_to t s v) x ≡ filled_of t x) × (cert_of (move_to t s v) x ≡ cert_of t x)
move_sketch t s v l x h = (seen_move proposal_look None t s v l refl x h, seen_move cert_look 0 t s v l refl x h)

pub move_gone : (t : Table) (x : ℕ) → x ≤ t.stable → filled_of t x ≡ None
move_gone t x h = seen_out proposal_look None t x (window_not t x h)

entered_certificate : (d : Option DigestValue) (p : Place) → (entered d p).certificate ≡ p.certificate
entered_certificate None p = refl
entered_certificate (Some d) p = refl

entered_proposal : (d : Option DigestValue) (p : Place) → (entered d p).proposal ≡ d
entered_proposal None p = refl
entered_proposal (Some d) p = refl

pub enter_sketch : (t : Table) (cs : List (Option DigestValue)) → Long t → (x : ℕ)
    → (cert_of (enter_all t cs) x ≡ cert_of t x) × (in_window t x ≡ true → filled_of (enter_all t cs) x ≡ get_or cs (x - t.stable - 1) None)
enter_sketch t cs l x = (go (cases_Bool (in_window t x)), here)
  where
    go : (in_window t x ≡ true) ⊎ (in_window t x ≡ false) → cert_of (enter_all t cs) x ≡ cert_of t x
    go (inl e) =
        seen_in cert_look 0 (enter_all t cs) x e
        ∙ (ap cert_look (enter_place t cs x l e)
        ∙ (ap cert_epoch (entered_certificate (get_or cs (x - t.stable - 1) None) (place_at t x)) ∙ sym (seen_in cert_look 0 t x e)))
    go (inr e) = seen_out cert_look 0 (enter_all t cs) x e ∙ sym (seen_out cert_look 0 t x e)

    here : in_window t x ≡ true → filled_of (enter_all t cs) x ≡ get_or cs (x - t.stable - 1) None
    here e =
        seen_in proposal_look None (enter_all t cs) x e
        ∙ (ap proposal_look (enter_place t cs x l e) ∙ entered_proposal (get_or cs (x - t.stable - 1) None) (place_at t x))

pub filled_within : (t : Table) (x : ℕ) (d : DigestValue) → filled_of t x ≡ Some d → in_window t x ≡ true
filled_within t x d k = go (cases_Bool (in_window t x))
  where
    go : (in_window t x ≡ true) ⊎ (in_window t x ≡ false) → in_window t x ≡ true
    go (inl e) = e
    go (inr e) = absurd (none_some d (sym (seen_out proposal_look None t x e) ∙ k))
