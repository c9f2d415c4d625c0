-- The calls that change the epoch keep what holds of a controller: giving up, entering by a dossier, and taking a turn.
use Rattle.std.proofs.Common.{◌≡◌, ℕ, zero, suc, ◌+◌, ◌-◌, ◌<◌, ◌≤◌, Bool, true, false, cond, eqb, ltb, leb, ◌⊎◌, List, [], ◌++◌, get_or, replicate, is_ok, Some, None, Ok, Err, Option, Result, sym, refl, ap, ◌∙◌, subst, inl, inr, append-nil, arith}
use Rattle.std.specs.List.{AllByRecursion}
use Rattle.std.proofs.lemmas.Bool.{cases_lt, cond-true, cond_both, or_parts, leb-false, ltb-false, true≢false, false≢true, both_ways}
use Rattle.wire.specs.declared.records.DigestValue.{DigestValue}
use Rattle.wire.specs.declared.records.Statement.{Statement}
use Rattle.wire.specs.declared.records.Sealed.{Sealed}
use Rattle.wire.specs.declared.records.Request.{Request}
use Rattle.wire.specs.declared.records.Batch.{Batch}
use Rattle.wire.specs.Values.{value_of, same_digest}
use Rattle.wire.specs.Frames.{stored, requests_of}
use Rattle.wire.proofs.Exact.{stored_back}
use Rattle.table.specs.declared.records.Certificate.{Certificate}
use Rattle.table.specs.declared.records.Ballot.{Ballot}
use Rattle.table.specs.declared.records.Place.{Place}
use Rattle.table.specs.declared.records.Table.{Table}
use Rattle.table.specs.Ballots.{no_ballots}
use Rattle.table.specs.Places.{past, proposes, kept_batch, entered as place-entered}
use Rattle.table.specs.Window.{in_window, place_at, move_to, enter_all}
use Rattle.protocol.specs.declared.records.Core.{Core}
use Rattle.protocol.specs.declared.refusal.Refusal.{Refusal}
use Rattle.protocol.specs.declared.refusal.Refusal.TheVariants.{Number, Record}
use Rattle.protocol.specs.Leaders.{everyone}
use Rattle.protocol.specs.Call.{Effect, called}
use Rattle.protocol.specs.Change.{held_for, give_up_refusal, give_up_effect, gave_up, undelivered, after_last, joined, turn_checks, turn_refusal, turn_effect, took_turn}
use Rattle.protocol.specs.Refusals.{first_of}
use Rattle.protocol.specs.State.{enough}
use Rattle.protocol.specs.Offer.{prepare_of}
use Rattle.protocol.specs.Enter.{stale, terms_of, opened, enter_checks, enter_refusal, base_proof, choices, enter_effect, enter_walked, entered}
use Rattle.quorum.specs.Sizes.{quorum}
use Rattle.quorum.specs.Sets.{Backed}
use Rattle.seal.specs.Records.{signer_of}
use Rattle.seal.proofs.Sameness.{same_digest_is}
use Rattle.digest.specs.Batched.{batch_digest}
use Rattle.dossier.specs.declared.parts.Terms.{Terms}
use Rattle.dossier.specs.declared.parts.Opened.{Opened}
use Rattle.dossier.specs.Walk.{top, chosen}
use Rattle.dossier.proofs.Sound.{sound_of}
use Rattle.house.specs.Runs.{Node, Has}
use Rattle.dossier.specs.Laws.{prepare_by, stable_by, held_by, highest_of, digest_of, Sound}
use Rattle.house.proofs.Sketch.{Seen, Turns, GivesUp, Enters}
use Rattle.house.proofs.Tables.{Long, filled_of, cert_of, cert_epoch, sketch_of, window_parts, window_from, move_long, move_stable, move_lower, move_kept, move_sketch, enter_long, enter_place, enter_sketch, filled_within, choices_at, choices_past, prepares_only, prepares_each, has_append, has_left, has_right, helds_only}
use Rattle.house.proofs.Local.{turns_inv, gives_up_inv, enters_inv}
use Rattle.house.proofs.Full.{BatchOk, PlaceOk, Origin, Full, grown, refused}
use Rattle.house.proofs.Checks.{passed, both, ok_called}
use Rattle.house.proofs.Options.{some_is}
use Rattle.wire.proofs.KindBytes.{kinds_apart}

nothing : {A : Type 0} (x : A) → ◌≡◌ {A = Option A} None (Some x) → ⊥
nothing x e = let z : ◌≡◌ {A = ℕ} 0 1 = cc in omega arith

-- WHAT ENTERING LEAVES

no_ballot : (i : ℕ) (x : Ballot) → get_or no_ballots.of i None ≡ Some x → ⊥
no_ballot i x h = nothing x (sym (go 16 i) ∙ h)
  where
    go : (k j : ℕ) → ◌≡◌ {A = Option Ballot} (get_or (replicate k None) j None) None
    go zero j = refl
    go (suc k) zero = refl
    go (suc k) (suc j) = go k j

entered_commits : (c : Option DigestValue) (p : Place) → (place-entered c p).commits ≡ no_ballots
entered_commits None p = refl
entered_commits (Some d) p = refl

enter_bare : (t : Table) (cs : List (Option DigestValue)) (s : ℕ) → Long t → in_window t s ≡ true
    → (i : ℕ) (x : Ballot) → get_or (place_at (enter_all t cs) s).commits.of i None ≡ Some x → ⊥
enter_bare t cs s l w i x h =
    let e : (place_at (enter_all t cs) s).commits ≡ no_ballots = ap (λ (p : Place). p.commits) (enter_place t cs s l w) ∙ entered_commits (get_or cs (s - t.stable - 1) None) (place_at t s) in
    no_ballot i x (sym (ap (λ b. get_or b.of i None) e) ∙ h)

refusal_none : (r : Refusal) → ◌≡◌ {A = Option Refusal} (Some r) None → ⊥
refusal_none r e = nothing r (sym e)

-- WHAT IS HELD

abbrev told : Option Certificate → DigestValue
told None = value_of 0
told (Some k) = k.digest

held_is : (self target s : ℕ) (k : Option Certificate) → held_for self target s k ≡ held_by self target s (cert_epoch k) (told k)
held_is self target s None = refl
held_is self target s (Some k) = refl

-- what giving up issues
abbrev Told : ℕ → Core → Statement → Type 0
Told self c a =
    (a ≡ stable_by self (c.view.epoch + 1) c.table.stable)
    ⊎ ((s : ℕ) × (d : DigestValue) × (c.table.stable < s) × (s ≤ c.table.stable + 32) × (a ≡ held_by self (c.view.epoch + 1) s (cert_of c.table s) d))

module _ {X : Type 0} (value : List ℕ → DigestValue) (next : X → ℕ → ℕ → ℕ → X) (marked : X → ℕ) (start : X) (n q self : ℕ) (honest honest_client : ℕ → Bool)
    (Issued : Statement → Type 0) (Handed : List Request → Type 0) (AskedFor : Statement → Type 0) where
  abbrev F : Node X → Type 0
  F k = Full value next start n q self honest honest_client Issued Handed AskedFor k

  -- nothing is delivered
  nothing_more : (c : Core) (x : X) (issued : List Statement) (log : List (List Request))
      → F (record { core = c; app = x; issued = issued; log = log }) → F (record { core = c; app = x; issued = issued; log = log ++ [] })
  nothing_more c x issued log f = subst (λ l. F (record { core = c; app = x; issued = issued; log = l })) (sym (append-nil log)) f

  -- TURN

  turn_step : (outbox : List Sealed) (c : Core) (x : X) → Long c.table → turn_refusal c outbox ≡ None → Turns (sketch_of c) (sketch_of (turn_effect c x).core)
  turn_step outbox c x long e = ended c.view.last refl unfinished.1
    where
      unfinished : (c.view.changing ≡ false) × (undelivered c.view.last c.delivered ≡ false)
      unfinished = or_parts c.view.changing (undelivered c.view.last c.delivered) (passed (turn_checks c outbox) e).1.0

      none_filled : (s : ℕ) → filled_of (enter_all c.table []) s ≡ None
      none_filled s = go (in_window c.table s) refl
        where
          go : (b : Bool) → in_window c.table s ≡ b → cond b (place_at (enter_all c.table []) s).proposal None ≡ None
          go true w = sym (cond-true (in_window c.table s) (place_at (enter_all c.table []) s).proposal None w) ∙ (enter_sketch c.table [] long s).1 w
          go false w = refl

      ended : (o : Option ℕ) → c.view.last ≡ o → undelivered o c.delivered ≡ false → Turns (sketch_of c) (sketch_of (turn_effect c x).core)
      ended None l u = absurd (false≢true (sym u))
      ended (Some last) l u =
          record {
            steady = unfinished.0;
            l = last;
            ended = l;
            epoch = refl;
            changing = refl;
            first = ap after_last l;
            last = λ m h. above m h;
            stable = refl;
            filled = none_filled;
            cert = λ s. (enter_sketch c.table [] long s).0;
          }
        where
          all_lead : Bool
          all_lead = eqb (joined c.house.n c.view.leaders (c.view.epoch + 1)) (everyone c.house.n)

          above : (m : ℕ) → cond all_lead None (Some (after_last c.view.last + 31)) ≡ Some m → last + 1 ≤ m
          above m h = cond_both all_lead None (Some (after_last c.view.last + 31)) (λ o. o ≡ Some m → last + 1 ≤ m) (λ _ k. absurd (nothing m k)) (λ _ k. omega (arith, some_is (after_last c.view.last + 31) m k, ap after_last l)) h

  pub turn_full : (outbox : List Sealed) (k : Node X) → F k → F (grown k (took_turn k.core k.app outbox))
  turn_full outbox k f = go (turn_refusal k.core outbox) refl
    where
      t : Table
      t = k.core.table

      go : (r : Option Refusal) → turn_refusal k.core outbox ≡ r → F (grown k (called k.core k.app outbox r (turn_effect k.core k.app)))
      go (Some r) e = subst F (sym (refused k outbox r (turn_effect k.core k.app))) f
      go None e =
          let step = turn_step outbox k.core k.app f.long e in
          nothing_more (turn_effect k.core k.app).core k.app k.issued k.log
          (record {
            size = f.size;
            own = f.own;
            long = enter_long t [] f.long;
            inv = turns_inv n q self honest Issued (sketch_of k.core) (sketch_of (turn_effect k.core k.app).core) k.issued step f.inv;
            places = λ s d h. absurd (nothing d (sym (step.filled s) ∙ h));
            bare = λ s w _. enter_bare t [] s f.long w;
            count = f.count;
            log = f.log;
            app = f.app;
            windows = f.windows;
            origin = f.origin;
          })

  -- GIVE UP

  give_up_step : (c : Core) (x : X) (before : List Statement) → Long c.table → c.house.own ≡ self
      → GivesUp self (sketch_of c) (sketch_of (give_up_effect c x).core) before ((give_up_effect c x).issued ++ before)
  give_up_step c x before long own_is =
      record {
        epoch = refl;
        changing = refl;
        first = refl;
        last = refl;
        stable = refl;
        filled = λ s. refl;
        cert = λ s. refl;
        more = λ a h. has_right (give_up_effect c x).issued before a h;
        only = λ a h. only a (has_append (give_up_effect c x).issued before a h);
      }
    where
      t : Table
      t = c.table

      target : ℕ
      target = c.view.epoch + 1

      only : (a : Statement) → Has (give_up_effect c x).issued a ⊎ Has before a → Has before a ⊎ Told self c a
      only a (inr h) = inl h
      only a (inl (inl e)) = inr (inl (sym e ∙ ap (λ (i : ℕ). stable_by i target t.stable) own_is))
      only a (inl (inr h)) =
          let w = helds_only c.house.own target (t.stable + 1) t.places a h in
          let s : ℕ = t.stable + 1 + w.0 in
          let low : t.stable < s = omega arith in
          let high : s ≤ t.stable + 32 = omega (arith, w.1, long) in
          let at : w.0 ≡ s - t.stable - 1 = omega arith in
          let k : Option Certificate = (place_at t s).certificate in
          let of : cert_of t s ≡ cert_epoch k = cond-true (in_window t s) (cert_epoch k) 0 (window_from t s low high) in
          inr (inr (
            s,
            told k,
            low,
            high,
            w.2
                ∙ ((λ i. held_for (own_is i) target s (get_or t.places (at i) past).certificate)
                ∙ (held_is self target s k ∙ ap (λ (e : ℕ). held_by self target s e (told k)) (sym of))),
          ))

  pub give_up_full : (outbox : List Sealed) (k : Node X) → F k → F (grown k (gave_up k.core k.app outbox))
  give_up_full outbox k f = go (give_up_refusal k.core outbox) refl
    where
      effect : Effect X
      effect = give_up_effect k.core k.app

      go : (r : Option Refusal) → give_up_refusal k.core outbox ≡ r → F (grown k (called k.core k.app outbox r (give_up_effect k.core k.app)))
      go (Some r) e = subst F (sym (refused k outbox r effect)) f
      go None e =
          nothing_more effect.core k.app (effect.issued ++ k.issued) k.log
          (record {
            size = f.size;
            own = f.own;
            long = f.long;
            inv = gives_up_inv n q self honest Issued (sketch_of k.core) (sketch_of effect.core) k.issued (effect.issued ++ k.issued) step f.inv;
            places = λ s d h. let p = f.places s d h in record { in_epoch = p.in_epoch; begun = p.begun; current = λ z. absurd (true≢false z); commits = p.commits; batch = p.batch };
            bare = f.bare;
            count = f.count;
            log = f.log;
            app = f.app;
            windows = f.windows;
            origin = λ e s d h. f.origin e s d (was e s d (step.only _ h));
          })
        where
          step : GivesUp self (sketch_of k.core) (sketch_of (give_up_effect k.core k.app).core) k.issued ((give_up_effect k.core k.app).issued ++ k.issued)
          step = give_up_step k.core k.app k.issued f.long f.own

          was : (e s : ℕ) (d : DigestValue) → Has k.issued (prepare_by self e s d) ⊎ Told self k.core (prepare_by self e s d) → Has k.issued (prepare_by self e s d)
          was e s d (inl h) = h
          was e s d (inr (inl h)) = absurd (kinds_apart (ap (λ (a : Statement). a.kind) h) refl)
          was e s d (inr (inr h)) = absurd (kinds_apart (ap (λ (a : Statement). a.kind) h.4) refl)

  -- ENTER

  abbrev terms : ℕ → Terms
  terms epoch = record { threshold = record { n = n; q = q }; epoch = epoch }

  module _ (c : Core) (x : X) (new : Sealed) (records : List Sealed) (o : Opened) where
    -- the table with the base stable, what is chosen for its numbers, and the table then
    abbrev moved : Table
    moved = move_to c.table o.base (base_proof (enough c) records o)

    abbrev ds : List (Option DigestValue)
    ds = choices o (moved.stable + 1) 32

    abbrev then : Core
    then = (enter_effect c x new records o).core

    abbrev issued : List Statement
    issued = (enter_effect c x new records o).issued

    module _ (long : Long c.table) where
      moved_long : Long moved
      moved_long = move_long c.table o.base (base_proof (enough c) records o) long

      moved_stable : (c.table.stable ≤ moved.stable) × (o.base ≤ moved.stable) × ((moved.stable ≡ c.table.stable) ⊎ (moved.stable ≡ o.base))
      moved_stable = go (cases_lt c.table.stable o.base)
        where
          go : (c.table.stable < o.base) ⊎ (o.base ≤ c.table.stable) → (c.table.stable ≤ moved.stable) × (o.base ≤ moved.stable) × ((moved.stable ≡ c.table.stable) ⊎ (moved.stable ≡ o.base))
          go (inl h) =
              let e : moved.stable ≡ o.base = move_stable c.table o.base (base_proof (enough c) records o) h in
              (omega (arith, e), omega (arith, e), inr e)
          go (inr h) =
              let e : moved.stable ≡ c.table.stable = ap (λ (u : Table). u.stable) (move_lower c.table o.base (base_proof (enough c) records o) h) in
              (omega (arith, e), omega (arith, e), inl e)

      -- what stands at a number of the window
      chosen_at : (s : ℕ) → in_window moved s ≡ true → get_or ds (s - moved.stable - 1) None ≡ chosen o s
      chosen_at s w =
          let k = window_parts moved s w in
          let below : s - moved.stable - 1 < 32 = omega (arith, k.0, k.1) in
          let there : moved.stable + 1 + (s - moved.stable - 1) ≡ s = omega (arith, k.0) in
          choices_at o (moved.stable + 1) 32 (s - moved.stable - 1) below ∙ ap (chosen o) there

      filled_at : (s : ℕ) → in_window moved s ≡ true → filled_of then.table s ≡ get_or ds (s - moved.stable - 1) None
      filled_at s w = (enter_sketch moved ds moved_long s).1 w

      -- a place that was filled and stays in the window stays as it was
      moved_place : (s : ℕ) (d : DigestValue) → in_window moved s ≡ true → filled_of c.table s ≡ Some d → place_at moved s ≡ place_at c.table s
      moved_place s d w h = go (cases_lt c.table.stable o.base)
        where
          go : (c.table.stable < o.base) ⊎ (o.base ≤ c.table.stable) → place_at moved s ≡ place_at c.table s
          go (inl z) =
              let k = window_parts moved s w in
              let l = window_parts c.table s (filled_within c.table s d h) in
              move_kept c.table o.base (base_proof (enough c) records o) s long z (omega (arith, k.0, moved_stable.1)) l.1
          go (inr z) = ap (λ (u : Table). place_at u s) (move_lower c.table o.base (base_proof (enough c) records o) z)

      -- the batch that stays at a number is of its digest
      kept_ok : (s : ℕ) (d : DigestValue) → in_window moved s ≡ true
          → ((e : DigestValue) → filled_of c.table s ≡ Some e → (b : Batch) → (place_at c.table s).batch ≡ Some b → BatchOk value Handed e (requests_of b))
          → (b : Batch) → kept_batch d (place_at moved s) ≡ Some b → BatchOk value Handed d (requests_of b)
      kept_ok s d w old b h = empty (same_digest d (value_of 0)) refl h
        where
          p : Place
          p = place_at moved s

          known : (z : Option DigestValue) → (place_at moved s).proposal ≡ z → proposes z d ≡ true → (place_at moved s).batch ≡ Some b → BatchOk value Handed d (requests_of b)
          known None e u g = absurd (false≢true u)
          known (Some d') e u g =
              let at : filled_of moved s ≡ Some d' = cond-true (in_window moved s) p.proposal None w ∙ e in
              let was : filled_of c.table s ≡ Some d' = sym (move_sketch c.table o.base (base_proof (enough c) records o) long s (window_parts moved s w).0).0 ∙ at in
              subst (λ (y : DigestValue). BatchOk value Handed y (requests_of b)) (same_digest_is d' d u)
              (old d' was b (ap (λ (u : Place). u.batch) (sym (moved_place s d' w was)) ∙ g))

          other : (z : Bool) → proposes (place_at moved s).proposal d ≡ z → cond z (place_at moved s).batch None ≡ Some b → BatchOk value Handed d (requests_of b)
          other true e g = known p.proposal refl e g
          other false e g = absurd (nothing b g)

          empty : (z : Bool) → same_digest d (value_of 0) ≡ z → cond z (Some (stored [])) (cond (proposes (place_at moved s).proposal d) (place_at moved s).batch None) ≡ Some b
              → BatchOk value Handed d (requests_of b)
          empty true e g =
              let none : requests_of b ≡ [] = ap requests_of (sym (some_is (stored []) b g)) ∙ stored_back [] (omega arith) in
              record { digest = ap (batch_digest value) none ∙ sym (same_digest_is d (value_of 0) e); got = inl none }
          empty false e g = other (proposes p.proposal d) refl g

      module _ (begun : 1 ≤ new.statement.epoch) (sound : Sound (terms new.statement.epoch) honest Issued o) where
        abbrev seen : Seen n q honest Issued
        seen = record { target = new.statement.epoch; begun = begun; o = o; sound = sound }

        enter_step : (before : List Statement) → stale c.view new.statement.epoch ≡ false → c.house.own ≡ self
            → Enters n q self honest Issued seen (sketch_of c) (sketch_of then) before (issued ++ before)
        enter_step before late own_is =
            record {
              fresh = fresh c.view.changing refl late;
              epoch = refl;
              changing = refl;
              first = refl;
              last = refl;
              stable = moved_stable;
              filled = filled;
              chosen = all_chosen;
              cert = λ s h. (enter_sketch moved ds moved_long s).0 ∙ (move_sketch c.table o.base (base_proof (enough c) records o) long s h).1;
              more = λ a h. has_right issued before a h;
              only = λ a h. only a (has_append issued before a h);
              each = each;
            }
          where
            target : ℕ
            target = new.statement.epoch

            fresh : (b : Bool) → c.view.changing ≡ b → cond b (ltb new.statement.epoch c.view.epoch) (leb new.statement.epoch c.view.epoch) ≡ false
                → (c.view.epoch ≤ new.statement.epoch) × (c.view.changing ≡ false → c.view.epoch < new.statement.epoch)
            fresh true e h = (ltb-false _ _ h, λ z. absurd (both_ways c.view.changing z e))
            fresh false e h = let k = leb-false _ _ h in (omega (arith, k), λ _. k)

            filled : (s : ℕ) (d : DigestValue) → filled_of then.table s ≡ Some d → (moved.stable < s) × (s ≤ moved.stable + 32) × (s ≤ top o) × (d ≡ digest_of o s)
            filled s d h =
                let w : in_window moved s ≡ true = filled_within then.table s d h in
                let k = window_parts moved s w in
                let z = sound.chosen_only s d (sym (chosen_at s w) ∙ (sym (filled_at s w) ∙ h)) in
                (k.0, k.1, z.1, z.2)

            all_chosen : (s : ℕ) → moved.stable < s → s ≤ top o → filled_of then.table s ≡ Some (digest_of o s)
            all_chosen s l u =
                let base = moved_stable.1 in
                let w = window_from moved s l (omega (arith, u, base, sound.top_near)) in
                filled_at s w ∙ (chosen_at s w ∙ sound.chosen_all s (omega (arith, base, l)) u)

            only : (a : Statement) → Has issued a ⊎ Has before a → Has before a ⊎ ((s : ℕ) × (d : DigestValue) × (filled_of then.table s ≡ Some d) × (a ≡ prepare_by self new.statement.epoch s d))
            only a (inr h) = inl h
            only a (inl h) = go (cases_lt w.0 32)
              where
                w : (i : ℕ) × (d : DigestValue) × (get_or ds i None ≡ Some d) × (a ≡ prepare_of c.house.own new.statement.epoch (moved.stable + 1 + i) d)
                w = prepares_only c.house.own target (moved.stable + 1) ds a h

                go : (w.0 < 32) ⊎ (32 ≤ w.0) → Has before a ⊎ ((s : ℕ) × (d : DigestValue) × (filled_of then.table s ≡ Some d) × (a ≡ prepare_by self new.statement.epoch s d))
                go (inr z) = absurd (nothing w.1 (sym (choices_past o (moved.stable + 1) 32 w.0 z) ∙ w.2))
                go (inl z) =
                    let s : ℕ = moved.stable + 1 + w.0 in
                    let k = window_from moved s (omega arith) (omega (arith, z)) in
                    let there : s - moved.stable - 1 ≡ w.0 = omega arith in
                    inr (s, w.1, filled_at s k ∙ (ap (λ (j : ℕ). get_or ds j None) there ∙ w.2), w.3 ∙ ap (λ (i : ℕ). prepare_by i target s w.1) own_is)

            each : (s : ℕ) (d : DigestValue) → filled_of then.table s ≡ Some d → Has (issued ++ before) (prepare_by self new.statement.epoch s d)
            each s d h =
                let w : in_window moved s ≡ true = filled_within then.table s d h in
                let k = window_parts moved s w in
                let there : moved.stable + 1 + (s - moved.stable - 1) ≡ s = omega (arith, k.0) in
                has_left issued before _
                (subst (λ (a : Statement). Has issued a) (λ i. prepare_by (own_is i) target (there i) d)
                (prepares_each c.house.own target (moved.stable + 1) ds (s - moved.stable - 1) d (sym (filled_at s w) ∙ h)))

        -- where a prepared digest comes from
        enter_origin : (s : ℕ) (d : DigestValue) → o.base < s → d ≡ digest_of o s → Origin value n q honest honest_client Issued Handed AskedFor new.statement.epoch s d
        enter_origin s d l e = go (cases_lt 0 (highest_of o s))
          where
            go : (0 < highest_of o s) ⊎ (highest_of o s ≤ 0) → Origin value n q honest honest_client Issued Handed AskedFor new.statement.epoch s d
            go (inl h) =
                inr (inr (highest_of o s, sound.claim_below begun s, subst (λ (y : DigestValue). Backed n q honest (λ i. Issued (prepare_by i (highest_of o s) s y))) (sym e) (sound.claim_backed s l h)))
            go (inr h) = inr (inl (e ∙ sound.chosen_empty s l (omega (arith, h))))

  -- what an accepted entry does
  enter_done : (new : Sealed) (records : List Sealed) (o : Opened) (k : Node X) → F k → 1 ≤ new.statement.epoch → Sound (terms new.statement.epoch) honest Issued o
      → stale k.core.view new.statement.epoch ≡ false
      → F (record { core = (enter_effect k.core k.app new records o).core; app = k.app; issued = (enter_effect k.core k.app new records o).issued ++ k.issued; log = k.log })
  enter_done new records o k f begun sound late =
      record {
        size = f.size;
        own = f.own;
        long = enter_long t' cs long';
        inv = enters_inv n q self honest Issued (seen c k.app new records o f.long begun sound) (sketch_of c) (sketch_of c') k.issued (added ++ k.issued) step f.inv;
        places = places;
        bare = λ s w _. enter_bare t' cs s long' w;
        count = f.count;
        log = f.log;
        app = f.app;
        windows = f.windows;
        origin = λ e s d h. origin e s d (step.only _ h);
      }
    where
      c : Core
      c = k.core

      c' : Core
      c' = (enter_effect k.core k.app new records o).core

      t' : Table
      t' = moved k.core k.app new records o

      cs : List (Option DigestValue)
      cs = ds k.core k.app new records o

      added : List Statement
      added = (enter_effect k.core k.app new records o).issued

      long' : Long t'
      long' = moved_long k.core k.app new records o f.long

      step : Enters n q self honest Issued (seen c k.app new records o f.long begun sound) (sketch_of c) (sketch_of c') k.issued (added ++ k.issued)
      step = enter_step k.core k.app new records o f.long begun sound k.issued late f.own

      places : (s : ℕ) (d : DigestValue) → filled_of c'.table s ≡ Some d → PlaceOk value honest Issued Handed false new.statement.epoch s (place_at c'.table s) d
      places s d h =
          let w : in_window t' s ≡ true = filled_within c'.table s d h in
          let is : get_or cs (s - t'.stable - 1) None ≡ Some d = sym (filled_at c k.app new records o f.long s w) ∙ h in
          let e : place_at c'.table s ≡ place-entered (Some d) (place_at t' s) = enter_place t' cs s long' w ∙ ap (λ (z : Option DigestValue). place-entered z (place_at t' s)) is in
          subst (λ (p : Place). PlaceOk value honest Issued Handed false new.statement.epoch s p d) (sym e)
          (record {
            in_epoch = new.statement.epoch;
            begun = begun;
            current = λ _. refl;
            commits = λ i x z. absurd (no_ballot i x z);
            batch = kept_ok c k.app new records o f.long s d w (λ e z b. (f.places s e z).batch b);
          })

      origin : (e s : ℕ) (d : DigestValue) → Has k.issued (prepare_by self e s d) ⊎ ((s' : ℕ) × (d' : DigestValue) × (filled_of c'.table s' ≡ Some d') × (prepare_by self e s d ≡ prepare_by self new.statement.epoch s' d'))
          → Origin value n q honest honest_client Issued Handed AskedFor e s d
      origin e s d (inl h) = f.origin e s d h
      origin e s d (inr h) =
          let w = step.filled h.0 h.1 h.2 in
          subst (λ (a : Statement). Origin value n q honest honest_client Issued Handed AskedFor a.epoch a.number a.digest) (sym h.3)
          (enter_origin c k.app new records o f.long begun sound h.0 h.1 (omega (arith, w.0, step.stable.1)) w.3)

  pub enter_full : q ≡ quorum n → (accepts : Statement → ℕ → Bool) (new : Sealed) (records : List Sealed) (outbox : List Sealed) (k : Node X) → F k
      → (is_ok (entered accepts k.core k.app outbox new records).result ≡ true → AllByRecursion (λ r. accepts r.statement r.seal ≡ true → honest (signer_of r) ≡ true → Issued r.statement) records)
      → F (grown k (entered accepts k.core k.app outbox new records))
  enter_full q-is accepts new records outbox k f fair = go (opened accepts k.core new records) refl (enter_refusal accepts k.core outbox new (opened accepts k.core new records)) refl
    where
      st : Statement
      st = new.statement

      same_terms : terms_of k.core new.statement ≡ terms new.statement.epoch
      same_terms = λ i. record { threshold = record { n = f.size i; q = (ap quorum f.size ∙ sym q-is) i }; epoch = new.statement.epoch }

      -- the epoch is later than one that was begun
      later : stale k.core.view new.statement.epoch ≡ false → 1 ≤ new.statement.epoch
      later late = up k.core.view.changing late
        where
          up : (b : Bool) → cond b (ltb new.statement.epoch k.core.view.epoch) (leb new.statement.epoch k.core.view.epoch) ≡ false → 1 ≤ new.statement.epoch
          up true h = omega (arith, ltb-false _ _ h, f.inv.begun)
          up false h = omega (arith, leb-false _ _ h, f.inv.begun)

      go : (w : Result Opened ℕ) → opened accepts k.core new records ≡ w → (r : Option Refusal) → enter_refusal accepts k.core outbox new w ≡ r
          → F (grown k (called k.core k.app outbox r (enter_walked k.core k.app new records w)))
      go w e (Some r) g = subst F (sym (refused k outbox r (enter_walked k.core k.app new records w))) f
      go (Err i) e None g = absurd (refusal_none (Record i) (both (first_of (enter_checks accepts k.core outbox new)) (Some (Record i)) g).1)
      go (Ok o) e None g =
          let checks = passed (enter_checks accepts k.core outbox new) (both (first_of (enter_checks accepts k.core outbox new)) (cond (eqb st.number o.base) None (Some Number)) g).0 in
          let late = checks.1.1.1.0 in
          let ok = ok_called k.core k.app outbox (enter_refusal accepts k.core outbox new (opened accepts k.core new records)) (enter_walked k.core k.app new records (opened accepts k.core new records)) (ap (λ (w : Result Opened ℕ). enter_refusal accepts k.core outbox new w) e ∙ g) in
          let sound = sound_of accepts (terms_of k.core new.statement) honest Issued records o (fair ok) e in
          nothing_more (enter_effect k.core k.app new records o).core k.app ((enter_effect k.core k.app new records o).issued ++ k.issued) k.log
          (enter_done new records o k f (later late) (subst (λ (u : Terms). Sound u honest Issued o) same_terms sound) late)
