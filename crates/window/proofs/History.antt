-- What is seen after timestamps were marked, one after another.
use Rattle.std.proofs.Common.{◌≡◌, ℕ, Bool, true, false, ◌||◌, eqb, ◌⊎◌, List, [], ◌∷◌, sym, refl, ap, ◌∙◌, inl, inr}
use mathlib.Core.Bool.{or-false}
use Rattle.std.proofs.lemmas.Bool.{cases_Bool, cond-true, cond-false}
use Rattle.window.specs.declared.window.Window.{Window}
use Rattle.window.specs.Spans.{free, seen}
use Rattle.window.specs.Marked.{after, fresh}
use Rattle.window.specs.Histories.{after_all, marked_ever, listed}
use Rattle.window.specs.Laws.{SeenMarked}
use Rattle.window.proofs.Seen.{mark_adds, else_unchanged, fresh_unseen}

pub or_swap : (a b c : Bool) → (a || (b || c)) ≡ ((b || a) || c)
or_swap true true c = refl
or_swap true false c = refl
or_swap false true c = refl
or_swap false false c = refl

-- what was seen before, and what was marked since
pub seen_all : (w : Window) (ts : List ℕ) (u : ℕ) → seen (after_all w ts).span u ≡ (listed u (marked_ever w ts) || seen w.span u)
seen_all w [] u = refl
seen_all w (t ∷ ts) u = go (cases_Bool (free w.span t)) (seen_all (after w t) ts u)
  where
    go : (free w.span t ≡ true) ⊎ (free w.span t ≡ false) → seen (after_all (after w t) ts).span u ≡ (listed u (marked_ever (after w t) ts) || seen (after w t).span u) → seen (after_all w (t ∷ ts)).span u ≡ (listed u (marked_ever w (t ∷ ts)) || seen w.span u)
    go (inl e) h =
        h ∙ ap (λ b. listed u (marked_ever (after w t) ts) || b) (mark_adds w t u e)
        ∙ or_swap (listed u (marked_ever (after w t) ts)) (eqb u t) (seen w.span u)
        ∙ sym (ap (λ (l : List ℕ). listed u l || seen w.span u) (cond-true (free w.span t) (t ∷ marked_ever (after w t) ts) (marked_ever (after w t) ts) e))
    go (inr e) h =
        h ∙ ap (λ (v : Window). listed u (marked_ever (after w t) ts) || seen v.span u) (else_unchanged w t e)
        ∙ sym (ap (λ (l : List ℕ). listed u l || seen w.span u) (cond-false (free w.span t) (t ∷ marked_ever (after w t) ts) (marked_ever (after w t) ts) e))

pub seen_marked : SeenMarked
seen_marked ts u h = seen_all fresh ts u ∙ ap (λ b. listed u (marked_ever fresh ts) || b) (fresh_unseen u h) ∙ or-false (listed u (marked_ever fresh ts))
