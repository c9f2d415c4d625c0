use Rattle.std.proofs.Common.{◌≡◌, false, true, ◌-◌, ◌<◌, ◌≤◌, ◌∷◌, List, ℕ, length, drop, take, pos, ap, sym, ◌∙◌, rules}
use Rattle.std.proofs.lemmas.Str.Pattern.{strip_prefix_char}
use Rattle.std.specs.Option.{option_map}
use Rattle.orders.proofs.Points.{too_short, no_boundary, no_point, pointed}
use Rattle.orders.proofs.numbers.hundredths_in.Goals as goal

pub returns-in_err-checked_sub : goal.returns-in_err-checked_sub
returns-in_err-checked_sub c =
    let short : length c.args.word.now < 3 = search rules in
    let none = too_short c.args.word.now short in
    c.from_residual.ensures ∙ sym (ap (option_map pos) none)

pub returns-in_err-whole : goal.returns-in_err-whole
returns-in_err-whole c =
    let w = c.args.word.now in
    let long : 3 ≤ length w = search rules in
    let place : c.in_ok-checked_sub.field-0 ≡ length w - 3 = search rules in
    let none = no_boundary w long (λ b. let e : false ≡ true = c.in_err-whole.ensures.variant.1 (rw place b) in cc) in
    c.from_residual-in_err-whole.ensures ∙ sym (ap (option_map pos) none)

pub returns-in_err-part : goal.returns-in_err-part
returns-in_err-part c =
    let w = c.args.word.now in
    let place : c.in_ok-checked_sub.field-0 ≡ length w - 3 = search rules in
    let rest : c.in_ok-whole.rest.now ≡ drop (length w - 3) w = search rules in
    let cut = strip_prefix_char 46 c.in_ok-whole.rest.now c.strip_prefix.result c.strip_prefix.ensures.cases (search rules) in
    let unbegun : (part : List ℕ) → c.in_ok-whole.rest.now ≡ 46 ∷ part → ⊥ = rw c.in_err-part.was at cut in
    let none = no_point w (λ part e. unbegun part (rest ∙ e)) in
    c.from_residual-in_err-part.ensures ∙ sym (ap (option_map pos) none)

pub returns : goal.returns
returns c =
    let w = c.args.word.now in
    let long : 3 ≤ length w = search rules in
    let place : c.in_ok-checked_sub.field-0 ≡ length w - 3 = search rules in
    let whole : c.in_ok-whole.whole.now ≡ take (length w - 3) w = search rules in
    let rest : c.in_ok-whole.rest.now ≡ drop (length w - 3) w = search rules in
    let cut = strip_prefix_char 46 c.in_ok-whole.rest.now c.strip_prefix.result c.strip_prefix.ensures.cases (search rules) in
    let begun : c.in_ok-whole.rest.now ≡ 46 ∷ c.in_ok-part.part.now = rw c.in_ok-part.was at cut in
    let meant = pointed w c.in_ok-part.part.now long (sym rest ∙ begun) in
    cc
