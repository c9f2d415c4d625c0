-- What an accepted call has passed.
use Rattle.std.proofs.Common.{◌≡◌, ℕ, Bool, true, false, cond, List, [], ◌∷◌, is_ok, Some, None, Option, refl, ap}
use Rattle.std.specs.List.{AllByRecursion}
use Rattle.wire.specs.declared.records.Sealed.{Sealed}
use Rattle.protocol.specs.declared.records.Core.{Core}
use Rattle.protocol.specs.declared.refusal.Refusal.{Refusal}
use Rattle.protocol.specs.Refusals.{first_of, or_else, at_request, at_record}
use Rattle.protocol.specs.Call.{Effect, called}
use Rattle.house.proofs.Options.{some_is_none}

-- none of the checks applies
pub passed : (cs : List (Bool × Refusal)) → first_of cs ≡ None → AllByRecursion (λ c. c.0 ≡ false) cs
passed [] e = tt
passed (c ∷ cs) e = go c.0 refl e (passed cs)
  where
    go : (b : Bool) → c.0 ≡ b → cond b (Some c.1) (first_of cs) ≡ None → (first_of cs ≡ None → AllByRecursion (λ d. d.0 ≡ false) cs) → AllByRecursion (λ d. d.0 ≡ false) (c ∷ cs)
    go true h f ih = absurd (some_is_none c.1 f)
    go false h f ih = (h, ih f)

pub both : (a b : Option Refusal) → or_else a b ≡ None → (a ≡ None) × (b ≡ None)
both (Some r) b e = absurd (some_is_none r e)
both None b e = (refl, e)

pub no_request_at : (o : Option ℕ) → at_request o ≡ None → o ≡ None
no_request_at None e = refl
no_request_at (Some i) e = absurd (some_is_none _ e)

pub no_record_at : (o : Option ℕ) → at_record o ≡ None → o ≡ None
no_record_at None e = refl
no_record_at (Some i) e = absurd (some_is_none _ e)

pub ok_called : {X : Type 0} (c : Core) (x : X) (outbox : List Sealed) (r : Option Refusal) (e : Effect X) → r ≡ None → is_ok (called c x outbox r e).result ≡ true
ok_called c x outbox r e h = ap (λ o. is_ok (called c x outbox o e).result) h
