-- One turn more of each loop, and what each chain adds.
use Rattle.std.proofs.Common.{◌≡◌, ℕ, ◌+◌, ◌-◌, ◌<◌, ◌≤◌, cond, List, [], ◌∷◌, ◌++◌, map, length, get_or, slice_get, ◌&&◌, ltb, leb, Some, None, Ok, OnOk, Result, take, filter, sym, refl, ap, subst, ◌∙◌, append_assoc, inl, inr, length-take, arith}
use Rattle.std.specs.List.{range_with_len, flat_map, filter_map, cons_option}
use Rattle.std.proofs.lemmas.List.{flat_map_more, map_more, map-id, append-nil}
use Rattle.std.proofs.lemmas.List.FromFn.{map-range_with_len_more}
use Rattle.std.proofs.lemmas.List.Sums.{fold_push}
use Rattle.std.proofs.lemmas.Bool.{cond_both, lt-ltb, le-ltb, le-leb}
use Rattle.std.proofs.lemmas.Option.{unwrap_or-slice_get}
use Rattle.std.specs.Option.{unwrap_or}
use Rattle.wire.specs.declared.records.Sealed.{Sealed}
use Rattle.seal.specs.Records.{none}
use Rattle.host.proofs.Highest.{highest_or_none}
use Rattle.host.specs.Partings.{one_at, stable_in, is_checkpoint, checkpoints_in, held_in, claim_in, claimed_epoch, is_prepare, prepares_in, higher, highest}
use Rattle.host.specs.Assembly.{at_number, at_numbers, assembled}

-- what is read off each element, one element on
map_next : {X Y : Type 0} (g : X → Y) (xs : List X) (i : ℕ) (x : X) → i < length xs → x ≡ get_or xs i x
    → map g (take (i + 1) xs) ≡ map g (take i xs) ++ g x ∷ []
map_next g xs i x h is = map_more g xs i x h ∙ ap (λ y. map g (take i xs) ++ g y ∷ []) (sym is)

-- what holds if there is a value, where there is one
pub at_ok : {T E P : Type 0} {r : Result T E} {x : T} → OnOk r P → r ≡ Ok x → P
at_ok {P = P} p is = subst (λ r. OnOk r P) is p

-- at most one record, as an option and as a list
one_joined : (ys zs : List Sealed) → length ys ≤ 1 → cons_option (slice_get ys 0) zs ≡ ys ++ zs
one_joined [] zs h = refl
one_joined (y ∷ []) zs h = refl
one_joined (y ∷ z ∷ ys) zs h = absurd (omega arith)

options_joined : {X : Type 0} (f : List Sealed → List Sealed) (g : X → List Sealed) → ((p : List Sealed) → length (f p) ≤ 1) → (xs : List X)
    → filter_map (λ x. slice_get (f (g x)) 0) xs ≡ flat_map f (map g xs)
options_joined f g short [] = refl
options_joined f g short (x ∷ xs) = one_joined (f (g x)) (filter_map (λ y. slice_get (f (g y)) 0) xs) (short (g x)) ∙ ap (λ zs. f (g x) ++ zs) (options_joined f g short xs)

short_one : (place : ℕ) (rs : List Sealed) → length (one_at place rs) ≤ 1
short_one place rs = omega (arith, length-take {A = Sealed})

short_held : (s : ℕ) (p : List Sealed) → length (held_in s p) ≤ 1
short_held s p =
    cond_both (ltb (stable_in p) s && leb s (stable_in p + 32)) (one_at (s - stable_in p) p) [] (λ ys. length ys ≤ 1) (λ _. short_one (s - stable_in p) p) (λ _. omega arith)

pub helds_added : {X : Type 0} (s : ℕ) (g : X → List Sealed) (xs : List X) (bs : List Sealed) {out : List Sealed}
    → out ≡ bs ++ filter_map (λ x. slice_get (held_in s (g x)) 0) xs → out ≡ bs ++ flat_map (held_in s) (map g xs)
helds_added s g xs bs added = added ∙ ap (λ l. bs ++ l) (options_joined (held_in s) g (short_held s) xs)

firsts_joined : {X : Type 0} (g : X → List Sealed) (xs : List X) → filter_map (λ x. slice_get (g x) 0) xs ≡ flat_map (one_at 0) (map g xs)
firsts_joined g [] = refl
firsts_joined g (x ∷ xs) = one (g x) ∙ ap (λ zs. one_at 0 (g x) ++ zs) (firsts_joined g xs)
  where
    one : (ys : List Sealed) → cons_option (slice_get ys 0) (filter_map (λ y. slice_get (g y) 0) xs) ≡ one_at 0 ys ++ filter_map (λ y. slice_get (g y) 0) xs
    one [] = refl
    one (y ∷ ys) = refl

pub firsts_added : {X : Type 0} (g : X → List Sealed) (xs : List X) (bs : List Sealed) {out : List Sealed}
    → out ≡ bs ++ filter_map (λ x. slice_get (g x) 0) xs → out ≡ bs ++ flat_map (one_at 0) (map g xs)
firsts_added g xs bs added = added ∙ ap (λ l. bs ++ l) (firsts_joined g xs)

highest_next : {X : Type 0} (key : List Sealed → ℕ) (g : X → List Sealed) (xs : List X) (i : ℕ) (x : X) → i < length xs → x ≡ get_or xs i x
    → highest key (map g (take (i + 1) xs)) ≡ higher key (highest key (map g (take i xs))) (g x)
highest_next key g xs i x h is = ap (highest key) (map_next g xs i x h is) ∙ fold_push (higher key) [] (map g (take i xs)) (g x)

-- a parting with a higher number takes the place of the first highest so far, and another does not
pub highest_yes : {X : Type 0} (key : List Sealed → ℕ) (g : X → List Sealed) (xs : List X) (i : ℕ) (x : X) → i < length xs → x ≡ get_or xs i x
    → {best ys after : List Sealed} {a b : ℕ} → best ≡ highest key (map g (take i xs)) → a ≡ key best → b ≡ key ys → ys ≡ g x → a < b → after ≡ g x
    → after ≡ highest key (map g (take (i + 1) xs))
highest_yes key g xs i x h is {best = best} so_far is-a is_b is-ys less is_new =
    let above : key best < key (g x) = omega (arith, ap key is-ys) in
    is_new ∙ sym (highest_next key g xs i x h is ∙ ap (λ p. higher key p (g x)) (sym so_far) ∙ ap (λ t. cond t (g x) best) (lt-ltb _ _ above))

pub highest_no : {X : Type 0} (key : List Sealed → ℕ) (g : X → List Sealed) (xs : List X) (i : ℕ) (x : X) → i < length xs → x ≡ get_or xs i x
    → {best ys : List Sealed} {a b : ℕ} → best ≡ highest key (map g (take i xs)) → a ≡ key best → b ≡ key ys → ys ≡ g x → b ≤ a
    → best ≡ highest key (map g (take (i + 1) xs))
highest_no key g xs i x h is {best = best} so_far is-a is_b is-ys not-less =
    let below : key (g x) ≤ key best = omega (arith, ap key is-ys) in
    sym (highest_next key g xs i x h is ∙ ap (λ p. higher key p (g x)) (sym so_far) ∙ ap (λ t. cond t (g x) best) (le-ltb _ _ below))

-- one number: its held statements, and the prepares of the highest claim, if one is there
number_whole : (ps : List (List Sealed)) (s : ℕ) {out after best : List Sealed} (bs : List Sealed)
    → out ≡ bs ++ flat_map (held_in s) ps → best ≡ highest (claimed_epoch s) ps → after ≡ out ++ prepares_in s best
    → after ≡ bs ++ at_number ps s
unfolding at_number
number_whole ps s {best = best} bs helds is-best added =
    added ∙ ap (λ o. o ++ prepares_in s best) helds ∙ ap (λ p. (bs ++ flat_map (held_in s) ps) ++ prepares_in s p) is-best
    ∙ append_assoc bs (flat_map (held_in s) ps) (prepares_in s (highest (claimed_epoch s) ps))

-- the claim is what its held statement says
pub number_claimed : (ps : List (List Sealed)) (s : ℕ) {out after best : List Sealed} {claim : Sealed} (bs : List Sealed)
    → out ≡ bs ++ flat_map (held_in s) ps → best ≡ highest (claimed_epoch s) ps → slice_get (held_in s best) 0 ≡ Some claim
    → after ≡ out ++ filter (is_prepare s claim.statement) best → after ≡ bs ++ at_number ps s
number_claimed ps s {out = out} {best = best} {claim = claim} bs helds is-best is_held added =
    let said : claim_in s best ≡ claim.statement = ap (λ r. r.statement) (sym (unwrap_or-slice_get (held_in s best) 0 none) ∙ ap (λ r. unwrap_or r none) is_held) in
    number_whole ps s bs helds is-best (added ∙ ap (λ st. out ++ filter (is_prepare s st) best) (sym said))

-- and where nothing is claimed there is no parting, and so no prepare
pub number_free : (ps : List (List Sealed)) (s : ℕ) {out best : List Sealed} (bs : List Sealed)
    → out ≡ bs ++ flat_map (held_in s) ps → best ≡ highest (claimed_epoch s) ps → slice_get (held_in s best) 0 ≡ None → out ≡ bs ++ at_number ps s
number_free ps s {out = out} {best = best} bs helds is-best not_held =
    number_whole ps s bs helds is-best (sym (append-nil out) ∙ ap (λ l. out ++ l) (sym (ap (prepares_in s) nobody)))
  where
    unheld : claimed_epoch s best ≡ 0
    unheld = ap (λ r. r.statement.held) (sym (unwrap_or-slice_get (held_in s best) 0 none) ∙ ap (λ r. unwrap_or r none) not_held)

    nobody : best ≡ []
    nobody =
        elim (highest_or_none (claimed_epoch s) [] ps (inl refl)) [
          | inl gone ↦ is-best ∙ gone
          | inr some ↦ absurd (omega (arith, some, unheld, ap (claimed_epoch s) is-best))
        ]

-- k numbers from a on, one number on
counting_more : (a k : ℕ) → range_with_len a (k + 1) ≡ range_with_len a k ++ (a + k) ∷ []
counting_more a k = sym (map-id (range_with_len a (k + 1))) ∙ map-range_with_len_more (λ n. n) a k (a + k) refl ∙ ap (λ ns. ns ++ (a + k) ∷ []) (map-id (range_with_len a k))

pub numbers_turn : (ps : List (List Sealed)) (a s : ℕ) {out after : List Sealed} (bs : List Sealed) → a ≤ s
    → out ≡ bs ++ flat_map (at_number ps) (range_with_len a (s - a)) → after ≡ out ++ at_number ps s
    → after ≡ bs ++ flat_map (at_number ps) (range_with_len a (s + 1 - a))
numbers_turn ps a s bs from so_far added =
    let k = s - a in
    let here : s ≡ a + k = omega arith in
    let more : k + 1 ≡ s + 1 - a = omega arith in
    added ∙ ap (λ o. o ++ at_number ps s) so_far ∙ ap (λ n. (bs ++ flat_map (at_number ps) (range_with_len a k)) ++ at_number ps n) here
    ∙ flat_map_more (at_number ps) bs (range_with_len a k) (a + k)
    ∙ ap (λ ns. bs ++ flat_map (at_number ps) ns) (sym (counting_more a k) ∙ ap (range_with_len a) more)

-- all 32 numbers
pub numbers_all : (ps : List (List Sealed)) (h k : ℕ) {out : List Sealed} (bs : List Sealed) → h ≤ 1000000000000 → k ≡ 32
    → out ≡ bs ++ flat_map (at_number ps) (range_with_len (h + 1) k) → out ≡ bs ++ at_numbers ps h
unfolding at_numbers
numbers_all ps h k bs low is-k all =
    all ∙ ap (λ n. bs ++ flat_map (at_number ps) (range_with_len (h + 1) n)) is-k
    ∙ ap (λ t. bs ++ cond t (flat_map (at_number ps) (range_with_len (h + 1) 32)) []) (sym (le-leb h 1000000000000 low))

-- the parts one after another
pub assembled_whole : (ps : List (List Sealed)) {start one two three best : List Sealed} {base : ℕ}
    → best ≡ highest stable_in ps → base ≡ stable_in best
    → start ≡ [] → one ≡ start ++ flat_map (one_at 0) ps → two ≡ one ++ filter (is_checkpoint base) best → three ≡ two ++ at_numbers ps base
    → three ≡ assembled ps
assembled_whole ps {best = best} {base = base} is-best is_base none_yet stables checkpoints numbers =
    let at_first = stables ∙ ap (λ o. o ++ flat_map (one_at 0) ps) none_yet in
    numbers ∙ ap (λ o. o ++ at_numbers ps base) (checkpoints ∙ ap (λ o. o ++ filter (is_checkpoint base) best) at_first)
    ∙ append_assoc (flat_map (one_at 0) ps) (filter (is_checkpoint base) best) (at_numbers ps base)
    ∙ ap (λ b. flat_map (one_at 0) ps ++ (filter (is_checkpoint b) best ++ at_numbers ps b)) is_base
    ∙ ap (λ p. flat_map (one_at 0) ps ++ (checkpoints_in p ++ at_numbers ps (stable_in p))) is-best
