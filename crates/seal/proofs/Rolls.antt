-- A search through a roll, one step at a time; and that to be listed is to stand in the list.
use Rattle.std.proofs.Common.{◌≡◌, ℕ, zero, suc, ◌+◌, ◌<◌, ◌≤◌, true, false, ◌||◌, eqb, ◌⊎◌, List, [], ◌∷◌, length, get_or, drop, sym, refl, ap, ◌∙◌, inl, inr, arith}
use Rattle.std.proofs.lemmas.List.{at_drop_more, at_drop_all}
use Rattle.std.proofs.lemmas.Bool.{and_parts, and_from, or_left, or_right, or_cases, eqb-true, eq-eqb, false≢true}
use Rattle.wire.specs.declared.records.Statement.{Statement}
use Rattle.wire.specs.declared.records.Sealed.{Sealed}
use Rattle.seal.specs.Records.{same_statement, none}
use Rattle.seal.proofs.Sameness.{same_statement_is, same_statement_self}
use Rattle.seal.specs.Roll.{matches, listed, Member, Membership}

module _ (st : Statement) (seal : ℕ) where
  pub listed_more : (xs : List Sealed) (i : ℕ) (d : Sealed) → i < length xs → matches (get_or xs i d) st seal ≡ false → listed (drop (i + 1) xs) st seal ≡ listed (drop i xs) st seal
  listed_more xs i d h e =
      sym (at_drop_more (λ l. listed l st seal) xs i d h ∙ ap (λ b. b || listed (drop (i + 1) xs) st seal) e)

  pub listed_found : (xs : List Sealed) (i : ℕ) (d : Sealed) → i < length xs → matches (get_or xs i d) st seal ≡ true → listed (drop i xs) st seal ≡ true
  listed_found xs i d h e =
      at_drop_more (λ l. listed l st seal) xs i d h ∙ or_left (matches (get_or xs i d) st seal) (listed (drop (i + 1) xs) st seal) e

  pub listed_all : (xs : List Sealed) (i : ℕ) → length xs ≤ i → listed (drop i xs) st seal ≡ false
  listed_all xs i h = at_drop_all (λ l. listed l st seal) xs i h

  matches_is : (x : Sealed) → matches x st seal ≡ true → x ≡ record { statement = st; seal = seal }
  matches_is x h =
      let p = and_parts (eqb x.seal seal) (same_statement x.statement st) h in
      λ i. record { statement = same_statement_is x.statement st p.1 i; seal = eqb-true x.seal seal p.0 i }

  matches_from : (x : Sealed) → x ≡ record { statement = st; seal = seal } → matches x st seal ≡ true
  matches_from x e =
      ap (λ (y : Sealed). matches y st seal) e ∙ and_from (eqb seal seal) (same_statement st st) (eq-eqb seal seal refl) (same_statement_self st)

  stands_there : (xs : List Sealed) → listed xs st seal ≡ true → Member xs (record { statement = st; seal = seal })
  stands_there [] e = absurd (false≢true e)
  stands_there (x ∷ xs) e = go (or_cases (matches x st seal) (listed xs st seal) e) (stands_there xs)
    where
      go : (matches x st seal ≡ true) ⊎ (listed xs st seal ≡ true) → (listed xs st seal ≡ true → Member xs (record { statement = st; seal = seal })) → Member (x ∷ xs) (record { statement = st; seal = seal })
      go (inl h) ih = (0, omega arith, matches_is x h)
      go (inr h) ih = let m = ih h in (suc m.0, omega (arith, m.1), m.2)

  is_listed : (xs : List Sealed) (k : ℕ) → k < length xs → get_or xs k none ≡ record { statement = st; seal = seal } → listed xs st seal ≡ true
  is_listed [] k h e = absurd (omega arith)
  is_listed (x ∷ xs) zero h e = or_left (matches x st seal) (listed xs st seal) (matches_from x e)
  is_listed (x ∷ xs) (suc k) h e = or_right (matches x st seal) (listed xs st seal) (is_listed xs k (omega arith) e)

pub membership : Membership
membership xs st seal = (stands_there st seal xs, λ m. is_listed st seal xs m.0 m.1 m.2)
