-- Deliveries by their served requests, and one after another.
use Rattle.std.proofs.Common.{◌≡◌, ℕ, suc, ◌+◌, true, false, ◌⊎◌, List, [], ◌∷◌, ◌++◌, length, fold, sym, refl, ap, ◌∙◌, inl, inr, add-zero, arith}
use Rattle.std.proofs.lemmas.List.Sums.{fold-append}
use Rattle.std.proofs.lemmas.Bool.{cases_Bool}
use Rattle.wire.specs.declared.records.Request.{Request}
use Rattle.window.specs.declared.windows.Windows.{Windows}
use Rattle.window.specs.Deliveries.{Course, applies, passes, taken, delivered}
use Rattle.window.specs.Histories.{windows_then, windows_after, served, applied_all}
use Rattle.window.specs.Laws.{Delivers, DeliveryJoins, resumed, ServedJoins}
use Rattle.window.proofs.Turns.{taken_yes, taken_no}
use Rattle.window.proofs.Serving.{admitted, marking, served_yes, served_no, then_yes, then_no}

served_append : (ws : Windows) (xs ys : List Request) → served ws (xs ++ ys) ≡ served ws xs ++ served (windows_after ws xs) ys
served_append ws [] ys = refl
served_append ws (q ∷ xs) ys = go (cases_Bool (admitted ws q)) (served_append (marking ws q) xs ys) (served_append ws xs ys)
  where
    go : (admitted ws q ≡ true) ⊎ (admitted ws q ≡ false)
        → served (marking ws q) (xs ++ ys) ≡ served (marking ws q) xs ++ served (windows_after (marking ws q) xs) ys
        → served ws (xs ++ ys) ≡ served ws xs ++ served (windows_after ws xs) ys
        → served ws (q ∷ xs ++ ys) ≡ served ws (q ∷ xs) ++ served (windows_after ws (q ∷ xs)) ys
    go (inl e) more same =
        served_yes ws q (xs ++ ys) e ∙ ap (λ (l : List Request). q ∷ l) more
        ∙ sym (ap (λ (l : List Request). l ++ served (windows_after (marking ws q) xs) ys) (served_yes ws q xs e))
        ∙ sym (ap (λ (v : Windows). served ws (q ∷ xs) ++ served (windows_after v xs) ys) (then_yes ws q e))
    go (inr e) more same =
        served_no ws q (xs ++ ys) e ∙ same
        ∙ sym (ap (λ (l : List Request). l ++ served (windows_after ws xs) ys) (served_no ws q xs e))
        ∙ sym (ap (λ (v : Windows). served ws (q ∷ xs) ++ served (windows_after v xs) ys) (then_no ws q e))

pub served_joins : ServedJoins
served_joins ws xs ys = (served_append ws xs ys, fold-append windows_then ws xs ys)

module _ {X : Type 0} (next : X → ℕ → ℕ → ℕ → X) where
  -- the course from any counts, by what is served
  pub record Tells (s : Course X) (qs : List Request) : Type 0 where
    pub app : (fold (taken next) s qs).app ≡ applied_all next s.app (served s.windows qs)
    pub windows : (fold (taken next) s qs).windows ≡ windows_after s.windows qs
    pub applied : (fold (taken next) s qs).applied ≡ s.applied + length (served s.windows qs)
    pub counted : (fold (taken next) s qs).applied + (fold (taken next) s qs).passed ≡ s.applied + s.passed + length qs

  pub tells : (s : Course X) (qs : List Request) → Tells s qs
  tells s [] = record { app = refl; windows = refl; applied = omega arith; counted = omega arith }
  tells s (q ∷ qs) = go (cases_Bool (admitted s.windows q)) (tells (applies next s q) qs) (tells (passes next s q) qs)
    where
      go : (admitted s.windows q ≡ true) ⊎ (admitted s.windows q ≡ false) → Tells (applies next s q) qs → Tells (passes next s q) qs → Tells s (q ∷ qs)
      go (inl e) h k =
          let is = taken_yes next s q e in
          let list = served_yes s.windows q qs e in record {
            app = ap (λ (r : Course X). (fold (taken next) r qs).app) is ∙ h.app ∙ sym (ap (λ l. applied_all next s.app l) list);
            windows = ap (λ (r : Course X). (fold (taken next) r qs).windows) is ∙ h.windows ∙ sym (ap (λ v. windows_after v qs) (then_yes s.windows q e));
            applied = ap (λ (r : Course X). (fold (taken next) r qs).applied) is ∙ h.applied ∙ (let l : length (served s.windows (q ∷ qs)) ≡ suc (length (served (marking s.windows q) qs)) = ap length list in omega arith);
            counted = ap (λ (r : Course X). (fold (taken next) r qs).applied + (fold (taken next) r qs).passed) is ∙ h.counted ∙ omega arith;
          }
      go (inr e) h k =
          let is = taken_no next s q e in
          let list = served_no s.windows q qs e in record {
            app = ap (λ (r : Course X). (fold (taken next) r qs).app) is ∙ k.app ∙ sym (ap (λ l. applied_all next s.app l) list);
            windows = ap (λ (r : Course X). (fold (taken next) r qs).windows) is ∙ k.windows ∙ sym (ap (λ v. windows_after v qs) (then_no s.windows q e));
            applied = ap (λ (r : Course X). (fold (taken next) r qs).applied) is ∙ k.applied ∙ sym (ap (λ (l : List Request). s.applied + length l) list);
            counted = ap (λ (r : Course X). (fold (taken next) r qs).applied + (fold (taken next) r qs).passed) is ∙ k.counted ∙ omega arith;
          }

  pub delivers : Delivers next
  delivers x ws qs =
      let h = tells (record { app = x; windows = ws; applied = 0; passed = 0 }) qs in
      record { app = h.app; windows = h.windows; applied = h.applied ∙ omega arith; counted = h.counted ∙ omega arith }

  -- counts put before those of another course
  abbrev shifted : Course X → Course X → Course X
  shifted s d = record { app = d.app; windows = d.windows; applied = s.applied + d.applied; passed = s.passed + d.passed }

  abbrev start : Course X → Course X
  start s = record { app = s.app; windows = s.windows; applied = 0; passed = 0 }

  pub resumes : (s : Course X) (qs : List Request) → fold (taken next) s qs ≡ resumed next s qs
  resumes s [] = λ i. record { app = s.app; windows = s.windows; applied = sym (add-zero s.applied) i; passed = sym (add-zero s.passed) i }
  resumes s (q ∷ qs) =
      go (cases_Bool (admitted s.windows q)) (resumes (applies next s q) qs) (resumes (applies next (start s) q) qs) (resumes (passes next s q) qs) (resumes (passes next (start s) q) qs)
    where
      go : (admitted s.windows q ≡ true) ⊎ (admitted s.windows q ≡ false)
          → fold (taken next) (applies next s q) qs ≡ resumed next (applies next s q) qs
          → fold (taken next) (applies next (start s) q) qs ≡ resumed next (applies next (start s) q) qs
          → fold (taken next) (passes next s q) qs ≡ resumed next (passes next s q) qs
          → fold (taken next) (passes next (start s) q) qs ≡ resumed next (passes next (start s) q) qs
          → fold (taken next) s (q ∷ qs) ≡ resumed next s (q ∷ qs)
      go (inl e) a b c d =
          let r : Course X = applies next s q in
          let n : ℕ = (delivered next r.app r.windows qs).applied in
          let m : ℕ = (delivered next r.app r.windows qs).passed in
          let more : s.applied + 1 + n ≡ s.applied + (0 + 1 + n) = omega arith in
          let rest : s.passed + m ≡ s.passed + (0 + m) = omega arith in
          ap (λ (v : Course X). fold (taken next) v qs) (taken_yes next s q e) ∙ a
          ∙ (λ i. record { app = (delivered next r.app r.windows qs).app; windows = (delivered next r.app r.windows qs).windows; applied = more i; passed = rest i })
          ∙ sym (ap (shifted s) (ap (λ (v : Course X). fold (taken next) v qs) (taken_yes next (start s) q e) ∙ b))
      go (inr e) a b c d =
          let n : ℕ = (delivered next s.app s.windows qs).applied in
          let m : ℕ = (delivered next s.app s.windows qs).passed in
          let more : s.applied + n ≡ s.applied + (0 + n) = omega arith in
          let rest : s.passed + 1 + m ≡ s.passed + (0 + 1 + m) = omega arith in
          ap (λ (v : Course X). fold (taken next) v qs) (taken_no next s q e) ∙ c
          ∙ (λ i. record { app = (delivered next s.app s.windows qs).app; windows = (delivered next s.app s.windows qs).windows; applied = more i; passed = rest i })
          ∙ sym (ap (shifted s) (ap (λ (v : Course X). fold (taken next) v qs) (taken_no next (start s) q e) ∙ d))

  pub delivery_joins : DeliveryJoins next
  delivery_joins x ws xs ys =
      fold-append (taken next) (record { app = x; windows = ws; applied = 0; passed = 0 }) xs ys ∙ resumes (delivered next x ws xs) ys
