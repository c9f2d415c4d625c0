-- What each change of a table keeps: no certificate gets more than 11 votes.
use Rattle.std.proofs.Common.{◌≡◌, ℕ, zero, suc, ◌+◌, ◌-◌, ◌≤◌, ◌⊎◌, List, [], ◌∷◌, ◌++◌, get_or, drop, set, replicate, Some, None, Option, sym, refl, subst, inl, inr, arith}
use Rattle.std.proofs.lemmas.Bool.{cond_both}
use Rattle.wire.specs.declared.records.DigestValue.{DigestValue}
use Rattle.table.specs.declared.records.Place.{Place}
use Rattle.table.specs.declared.records.Table.{Table}
use Rattle.table.specs.Places.{past, empty_place, entered, all_entered}
use Rattle.table.specs.Window.{in_window, with_place}
use Rattle.controller.specs.Sound.{held_votes, Few}

-- no choice at all is no choice for each
none_of : (k i : ℕ) → let all : List (Option DigestValue) = replicate k None in get_or all i None ≡ None
none_of zero i = refl
none_of (suc k) zero = refl
none_of (suc k) (suc i) = none_of k i

pub entered_none : (k i : ℕ) (ps : List Place) → all_entered i (replicate k None) ps ≡ all_entered i [] ps
entered_none k i [] = refl
entered_none k i (p ∷ ps) = λ j. entered (none_of k i j) p ∷ entered_none k (i + 1) ps j

set_either : {X : Type 0} (xs : List X) (i : ℕ) (x : X) (j : ℕ) (d : X) → (get_or (set xs i x) j d ≡ x) ⊎ (get_or (set xs i x) j d ≡ get_or xs j d)
set_either [] i x j d = inr refl
set_either (y ∷ ys) zero x zero d = inl refl
set_either (y ∷ ys) zero x (suc j) d = inr refl
set_either (y ∷ ys) (suc i) x zero d = inr refl
set_either (y ∷ ys) (suc i) x (suc j) d = set_either ys i x j d

abbrev Low : Place → Type 0
Low p = held_votes p.certificate ≤ 11

pub few_set : (ps : List Place) (i : ℕ) (p : Place) → Few ps → held_votes p.certificate ≤ 11 → Few (set ps i p)
few_set ps i p few low j = go (set_either ps i p j past)
  where
    go : (get_or (set ps i p) j past ≡ p) ⊎ (get_or (set ps i p) j past ≡ get_or ps j past) → held_votes (get_or (set ps i p) j past).certificate ≤ 11
    go (inl e) = subst Low (sym e) low
    go (inr e) = subst Low (sym e) (few j)

entered_low : (o : Option DigestValue) (p : Place) → held_votes (entered o p).certificate ≡ held_votes p.certificate
entered_low None p = refl
entered_low (Some d) p = refl

pub few_entered : (k : ℕ) (cs : List (Option DigestValue)) (ps : List Place) → Few ps → Few (all_entered k cs ps)
few_entered k cs [] few j = few j
few_entered k cs (p ∷ ps) few zero = omega (arith, few 0, entered_low (get_or cs k None) p)
few_entered k cs (p ∷ ps) few (suc j) = few_entered (k + 1) cs ps (λ i. few (suc i)) j

pub few_drop : (k : ℕ) (ps : List Place) → Few ps → Few (drop k ps)
few_drop zero ps few = few
few_drop (suc k) [] few = few
few_drop (suc k) (p ∷ ps) few = few_drop k ps (λ i. few (suc i))

pub few_empty : (k : ℕ) → Few (replicate k empty_place)
few_empty zero i = omega arith
few_empty (suc k) zero = omega arith
few_empty (suc k) (suc i) = few_empty k i

pub few_append : (ps : List Place) (k : ℕ) → Few ps → Few (ps ++ replicate k empty_place)
few_append [] k few i = few_empty k i
few_append (p ∷ ps) k few zero = few 0
few_append (p ∷ ps) k few (suc i) = few_append ps k (λ j. few (suc j)) i

-- a table's stable number, its proof and its certificates
pub record Tame (t : Table) : Type 0 where
  pub stable : t.stable ≤ 1000000000000
  pub proof : t.proof.count ≤ 11
  pub few : Few t.places

pub tame_with : (t : Table) (s : ℕ) (p : Place) → Tame t → held_votes p.certificate ≤ 11 → Tame (with_place t s p)
tame_with t s p h low =
    cond_both (in_window t s) (record { stable = t.stable; proof = t.proof; rows = t.rows; places = set t.places (s - t.stable - 1) p }) t Tame
    (λ _. record { stable = h.stable; proof = h.proof; few = few_set t.places (s - t.stable - 1) p h.few low })
    (λ _. h)
