-- Places that enter another epoch, one by one.
use Rattle.std.proofs.Common.{◌≡◌, ℕ, suc, ◌+◌, ◌<◌, List, [], ◌∷◌, ◌++◌, length, get_or, take, drop, set, None, Option, sym, refl, ap, ◌∙◌, append_assoc, arith}
use Rattle.std.proofs.lemmas.List.{take_more, drop_more, get_or_at, set_at, length-take-le}
use Rattle.wire.specs.declared.records.DigestValue.{DigestValue}
use Rattle.table.specs.declared.records.Place.{Place}
use Rattle.table.specs.declared.records.Table.{Table}
use Rattle.table.specs.Places.{past, entered, all_entered}

pub length-entered : (k : ℕ) (cs : List (Option DigestValue)) (ps : List Place) → length (all_entered k cs ps) ≡ length ps
length-entered k cs [] = refl
length-entered k cs (p ∷ ps) = ap suc (length-entered (k + 1) cs ps)

entered_push : (k : ℕ) (cs : List (Option DigestValue)) (ps : List Place) (p : Place) → all_entered k cs (ps ++ p ∷ []) ≡ all_entered k cs ps ++ entered (get_or cs (k + length ps) None) p ∷ []
entered_push k cs [] p = let e : k ≡ k + 0 = omega arith in ap (λ m. entered (get_or cs m None) p ∷ []) e
entered_push k cs (x ∷ xs) p =
    let e : k + 1 + length xs ≡ k + length (x ∷ xs) = omega arith in
    ap (λ l. entered (get_or cs k None) x ∷ l) (entered_push (k + 1) cs xs p ∙ ap (λ m. all_entered (k + 1) cs xs ++ entered (get_or cs m None) p ∷ []) e)

module _ (cs : List (Option DigestValue)) (es ps : List Place) (i : ℕ) (lt : i < length es) (is : ps ≡ all_entered 0 cs (take i es) ++ drop i es) where
  long : length (all_entered 0 cs (take i es)) ≡ i
  long = length-entered 0 cs (take i es) ∙ length-take-le i es (omega arith)

  cut : ps ≡ all_entered 0 cs (take i es) ++ get_or es i past ∷ drop (i + 1) es
  cut = is ∙ ap (λ l. all_entered 0 cs (take i es) ++ l) (drop_more es i past lt)

  pub one_entered : (d : Option DigestValue) (new : Place) → d ≡ get_or cs i None → new ≡ entered d (get_or ps i past)
      → set ps i new ≡ all_entered 0 cs (take (i + 1) es) ++ drop (i + 1) es
  one_entered d new e was =
      let front = all_entered 0 cs (take i es) in
      let here : get_or ps i past ≡ get_or es i past = ap (λ l. get_or l i past) cut ∙ get_or_at front (get_or es i past) (drop (i + 1) es) past i long in
      let at : 0 + length (take i es) ≡ i = omega (arith, length-take-le i es (omega arith)) in
      let value : new ≡ entered (get_or cs i None) (get_or es i past) = was ∙ (λ j. entered (e j) (here j)) in
      ap (λ l. set l i new) cut
      ∙ (set_at front (get_or es i past) (drop (i + 1) es) new i long
      ∙ (ap (λ x. front ++ x ∷ drop (i + 1) es) value
      ∙ (sym (append_assoc front (entered (get_or cs i None) (get_or es i past) ∷ []) (drop (i + 1) es))
      ∙ ap (λ l. l ++ drop (i + 1) es) (sym (ap (all_entered 0 cs) (take_more es i past lt) ∙ (entered_push 0 cs (take i es) (get_or es i past) ∙ ap (λ m. front ++ entered (get_or cs m None) (get_or es i past) ∷ []) at))))))

-- the table in which i places have entered, and what one more makes of it
abbrev pub partly : Table → List (Option DigestValue) → ℕ → Table
partly t cs i = record { stable = t.stable; proof = t.proof; rows = t.rows; places = all_entered 0 cs (take i t.places) ++ drop i t.places }

pub table_entered : (from t : Table) (cs : List (Option DigestValue)) (i : ℕ) (new : Place) → i < length from.places → t ≡ partly from cs i → new ≡ entered (get_or cs i None) (get_or t.places i past)
    → record { stable = t.stable; proof = t.proof; rows = t.rows; places = set t.places i new } ≡ partly from cs (i + 1)
table_entered from t cs i new lt is was =
    let places = one_entered cs from.places t.places i lt (ap (λ (x : Table). x.places) is) (get_or cs i None) new refl was in
    λ k. record { stable = (is k).stable; proof = (is k).proof; rows = (is k).rows; places = places k }
