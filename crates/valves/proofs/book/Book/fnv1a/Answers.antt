use Rattle.std.proofs.Common.{◌≡◌, ℕ, List, fold, ap, rules, ◌∙◌}
use Rattle.std.specs.List.{flat_map}
use Rattle.application.specs.Payload.{bytes2, bytes4}
use Rattle.application.proofs.Folds.{folded_rows, folded_three}
use Rattle.digest.specs.Fnv.{mix, fnv_from}
use Rattle.valves.proofs.book.Book.fnv1a.Goals as goal

pub returns : goal.returns
returns c =
    let accounts : List ℕ = flat_map bytes4 c.args.self.now.accounts in
    let plant : List ℕ = bytes4 c.args.self.now.plant in
    let openings : List ℕ = flat_map bytes2 c.args.self.now.openings in
    let first : c.fold-accounts.result ≡ fold (λ (h : ℕ) (x : ℕ). fnv_from h (bytes4 x)) c.offset_basis.result c.args.self.now.accounts = search rules in
    let last : c.fold.result ≡ fold (λ (h : ℕ) (x : ℕ). fnv_from h (bytes2 x)) c.absorb_all-plant.result c.args.self.now.openings = search rules in
    let one = first ∙ (folded_rows mix bytes4 c.offset_basis.result c.args.self.now.accounts ∙ ap (λ h. fnv_from h accounts) c.offset_basis.ensures) in
    let two = c.absorb_all-plant.ensures ∙ (ap (fnv_from _) c.to_be_bytes.ensures ∙ ap (λ h. fnv_from h plant) one) in
    last ∙ (folded_rows mix bytes2 c.absorb_all-plant.result c.args.self.now.openings
    ∙ (ap (λ h. fnv_from h openings) two ∙ folded_three mix 0xcbf29ce484222325 accounts plant openings))
