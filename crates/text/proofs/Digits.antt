-- What is parsed from digits is their number.
use Rattle.std.proofs.Common.{◌≡◌, ℕ, ◌+◌, ◌^◌, ◌<◌, ◌≤◌, Bool, true, false, cond, List, [], ◌∷◌, length, Some, None, Ok, Err, Option, Result, nat_le, refl, subst, ◌∙◌, rules, arith}
use Rattle.std.proofs.lemmas.Bool.Decides.{nat_tests}
use Rattle.std.proofs.lemmas.Str.Parse.{IsNumeralModel, numerals_by_fold, parse_digits}
use Rattle.std.specs.Bool.{MatchBool}
use Rattle.std.specs.Char.{is_ascii_digit}
use Rattle.std.specs.List.{list_all}
use Rattle.std.specs.Result.{OkIff, result_ok}
use Rattle.std.specs.Str.Parse.{ParsesUnsigned}
use Rattle.text.specs.Numbers.{with_digit, digits_from, number_in, IsNumberIn}

abbrev pub read_on : ℕ → List ℕ → ℕ
read_on n [] = n
read_on n (c ∷ cs) = read_on (with_digit n c) cs

own : IsNumeralModel (λ w. list_all is_ascii_digit w ≡ true) (read_on 0)
own = numerals_by_fold _ (search rules) read_on (search rules)

grows : (n : ℕ) (w : List ℕ) → n ≤ read_on n w
grows n [] = omega arith
grows n (c ∷ cs) = omega (arith, grows (with_digit n c) cs)

digits_read : (limit n : ℕ) (w : List ℕ) → n ≤ limit → list_all is_ascii_digit w ≡ true → digits_from limit n w ≡ cond (nat_le (read_on n w) limit) (Some (read_on n w)) None
digits_read limit n [] h e = grind (arith, nat_tests)
digits_read limit n (c ∷ cs) h e =
    let more = digits_read limit (with_digit n c) cs in
    let above = grows (with_digit n c) cs in
    grind (arith, nat_tests, more, above)

no_digits : (limit n : ℕ) (w : List ℕ) → list_all is_ascii_digit w ≡ false → digits_from limit n w ≡ None
no_digits limit n [] e = cc
no_digits limit n (c ∷ cs) e =
    let more = no_digits limit (with_digit n c) cs in
    grind (arith, nat_tests, more)

-- the number in a word, by what is parsed from it
parsed_digits : {E : Type 0} (limit : ℕ) (w : List ℕ) (p : Result ℕ E) → OkIff p ((0 < length w) × (read_on 0 w < limit + 1)) (read_on 0 w) → list_all is_ascii_digit w ≡ true → result_ok p ≡ number_in limit w
unfolding number_in
parsed_digits limit w (Ok x) h e =
    let read = digits_read limit 0 w (omega arith) e in
    grind (arith, nat_tests, read)
parsed_digits limit w (Err x) h e =
    let read = digits_read limit 0 w (omega arith) e in
    grind (arith, nat_tests, read)

unparsed : (limit : ℕ) (w : List ℕ) → list_all is_ascii_digit w ≡ false → None ≡ number_in limit w
unfolding number_in
unparsed limit w e =
    let none = no_digits limit 0 w e in
    grind (arith, nat_tests, none)

by_test : {E : Type 0} (k limit : ℕ) → 2 ^ k ≡ limit + 1 → (gives : List ℕ → Result ℕ E → Type 0) → ((w : List ℕ) (p : Result ℕ E) → gives w p → ParsesUnsigned k 10 w p) → (w : List ℕ) (r : Option ℕ) (b : Bool) → list_all is_ascii_digit w ≡ b → MatchBool b ((p : Result ℕ E) × gives w p × (r ≡ result_ok p)) (r ≡ None) → r ≡ number_in limit w
by_test k limit size gives parses w r true e (p, g, h) = h ∙ parsed_digits limit w p (subst (λ n. OkIff p ((0 < length w) × (read_on 0 w < n)) (read_on 0 w)) size (parse_digits own k w p (parses w p g) e)) e
by_test k limit size gives parses w r false e h = h ∙ unparsed limit w e

-- the number of a type of k bits
pub number_parsed : {E : Type 0} (k limit : ℕ) → 2 ^ k ≡ limit + 1 → (gives : List ℕ → Result ℕ E → Type 0) (w : List ℕ) (r : Option ℕ) → IsNumberIn gives w r → ((bs : List ℕ) (p : Result ℕ E) → gives bs p → ParsesUnsigned k 10 bs p) → r ≡ number_in limit w
number_parsed k limit size gives w r h parses = by_test k limit size gives parses w r (list_all is_ascii_digit w) refl h
