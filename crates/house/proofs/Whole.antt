-- Over a whole run: what holds of each honest controller at any moment.
use Rattle.std.proofs.Common.{◌≡◌, ℕ, ◌+◌, Bool, true, false, cond, eqb, leb, List, [], ◌∷◌, length, get_or, is_ok, Some, None, Option, sym, refl, ap, ◌∙◌, subst, inl, inr, arith, lit≤}
use Rattle.std.specs.List.{AllByRecursion}
use Rattle.std.proofs.ByRecursion.{All-weaker}
use Rattle.std.proofs.lemmas.List.{length-append}
use Rattle.std.proofs.lemmas.Bool.{eqb-true, and_parts, leb-true, cond_both}
use Rattle.wire.specs.declared.records.DigestValue.{DigestValue}
use Rattle.wire.specs.declared.records.Statement.{Statement}
use Rattle.wire.specs.declared.records.Sealed.{Sealed}
use Rattle.wire.specs.declared.records.Request.{Request}
use Rattle.quorum.specs.declared.house.House.{House}
use Rattle.quorum.specs.Sizes.{quorum}
use Rattle.table.specs.declared.records.Ballot.{Ballot}
use Rattle.table.specs.declared.records.Place.{Place}
use Rattle.table.specs.Window.{in_window, new_table, place_at}
use Rattle.protocol.specs.declared.records.Core.{Core}
use Rattle.protocol.specs.declared.refusal.Refusal.{Refusal}
use Rattle.protocol.specs.Call.{Effect, called}
use Rattle.protocol.specs.Offer as Offer
use Rattle.protocol.specs.Vote as Vote
use Rattle.protocol.specs.Supply as Supply
use Rattle.protocol.specs.Prove as Prove
use Rattle.protocol.specs.Change as Change
use Rattle.protocol.specs.Enter as Enter
use Rattle.house.specs.Runs
use Rattle.house.proofs.Tables
use Rattle.house.proofs.Local.{start_inv}
use Rattle.house.proofs.Global.{}
use Rattle.house.proofs.Full.{Full}
use Rattle.house.proofs.Calls
use Rattle.house.proofs.Calls.{none_of_none}
use Rattle.house.proofs.Changes
use Rattle.house.proofs.Options.{none_is_some}
use Rattle.wire.specs.Kinds.{of_controllers}

-- what was asked for before the last event
abbrev pub AskedBefore : List Runs.Event → Statement → Type 0
AskedBefore [] st = ⊥
AskedBefore (e ∷ older) st = Runs.Asked older st

asked_more : (e : Runs.Event) (older : List Runs.Event) (st : Statement) → Runs.Asked older st → Runs.Asked (e ∷ older) st
asked_more (Runs.at k outbox c) older st h = h
asked_more (Runs.asks client timestamp payload) older st h = inr h

pub before_asked : (run : List Runs.Event) (st : Statement) → AskedBefore run st → Runs.Asked run st
before_asked [] st h = h
before_asked (e ∷ older) st h = asked_more e older st h

pub handed_more : (honest : ℕ → Bool) (e : Runs.Event) (older : List Runs.Event) (rs : List Request) → Runs.Handed honest older rs → Runs.Handed honest (e ∷ older) rs
handed_more honest (Runs.at k outbox c) older rs h = inr h
handed_more honest (Runs.asks client timestamp payload) older rs h = h

module _ {X : Type 0} (value : List ℕ → DigestValue) (next : X → ℕ → ℕ → ℕ → X) (marked : X → ℕ) (start : X) (houses : ℕ → House) where
  abbrev node : ℕ → List Runs.Event → Runs.Node X
  node = Runs.node value next marked start houses

  -- a refused call delivers nothing, and an accepted one as many batches as it answers
  counts : (c : Core) (x : X) (outbox : List Sealed) (r : Option Refusal) (e : Effect X) → length (called c x outbox r e).batches ≡ Runs.batches_counted (called c x outbox r e).result
  counts c x outbox (Some r) e = refl
  counts c x outbox None e = refl

  step_counts : (c : Core) (x : X) (outbox : List Sealed) (call : Runs.Call) → length (Runs.stepped value next marked c x outbox call).batches ≡ Runs.batches_counted (Runs.stepped value next marked c x outbox call).result
  step_counts c x outbox (Runs.offer accepts p rs) = counts c x outbox (Offer.offer_refusal accepts value c outbox p rs) _
  step_counts c x outbox (Runs.vote accepts v) = counts c x outbox (Vote.vote_refusal accepts c outbox v) _
  step_counts c x outbox (Runs.supply s rs) = counts c x outbox (Supply.supply_refusal value c outbox s rs) _
  step_counts c x outbox (Runs.prove accepts s rs list) = counts c x outbox (Prove.prove_refusal accepts value c outbox s rs list) _
  step_counts c x outbox Runs.give_up = counts c x outbox (Change.give_up_refusal c outbox) _
  step_counts c x outbox (Runs.enter accepts new records) = counts c x outbox (Enter.enter_refusal accepts c outbox new (Enter.opened accepts c new records)) _
  step_counts c x outbox Runs.turn = counts c x outbox (Change.turn_refusal c outbox) _

  pub counted : (k : ℕ) (run : List Runs.Event) → length (node k run).log ≡ Runs.delivered_upto value next marked start houses k run
  unfolding Runs.node Runs.delivered_upto Runs.after
  counted k [] = refl
  counted k (Runs.asks client timestamp payload ∷ older) = counted k older
  counted k (Runs.at i outbox c ∷ older) = go (eqb i k) (counted k older)
    where
      go : (b : Bool) → length (node k older).log ≡ Runs.delivered_upto value next marked start houses k older
          → length (cond b (Runs.after value next marked (node k older) outbox c) (node k older)).log
          ≡ cond b (Runs.delivered_upto value next marked start houses k older + Runs.batches_counted (Runs.stepped value next marked (node k older).core (node k older).app outbox c).result) (Runs.delivered_upto value next marked start houses k older)
      go true h = length-append (node k older).log _ ∙ omega (arith, h, step_counts (node k older).core (node k older).app outbox c)
      go false h = h

  -- what was issued stays issued
  pub issued_more : (k : ℕ) (e : Runs.Event) (older : List Runs.Event) (a : Statement) → Runs.Has (node k older).issued a → Runs.Has (node k (e ∷ older)).issued a
  unfolding Runs.node Runs.after
  issued_more k (Runs.asks client timestamp payload) older a h = h
  issued_more k (Runs.at i outbox c) older a h = go (eqb i k)
    where
      go : (b : Bool) → Runs.Has (cond b (Runs.after value next marked (node k older) outbox c) (node k older)).issued a
      go true = Tables.has_right _ (node k older).issued a h
      go false = h

  module _ (n : ℕ) (honest honest_client : ℕ → Bool) (members : (k : ℕ) → honest k ≡ true → ((houses k).n ≡ n) × ((houses k).own ≡ k))
      (Issued : Statement → Type 0) (Handed : List Request → Type 0) (AskedFor : Statement → Type 0) where
    abbrev F : ℕ → Runs.Node X → Type 0
    F k = Full value next start n (quorum n) k honest honest_client Issued Handed AskedFor

    start_full : (k : ℕ) → honest k ≡ true → F k (Runs.new_node value next marked start houses k)
    start_full k hon = record {
      size = (members k hon).0;
      own = (members k hon).1;
      long = Tables.new_long;
      inv = start_inv n (quorum n) k honest Issued _ (lit≤ tt) refl (λ s. empty s);
      places = λ s d e. absurd (filled_none s d e);
      bare = λ s w p i x e. absurd (no_ballot s w i x e);
      count = refl;
      log = λ j l. absurd (omega (arith, l));
      app = refl;
      windows = refl;
      origin = λ e s d h. absurd h;
    }
      where
        empty : (s : ℕ) → Tables.filled_of new_table s ≡ None
        empty s = cond_both (in_window new_table s) (place_at new_table s).proposal None (λ o. o ≡ None) (λ w. ap (λ (p : Place). p.proposal) (Tables.new_place s w)) (λ _. refl)

        filled_none : (s : ℕ) (d : DigestValue) → Tables.filled_of new_table s ≡ Some d → ⊥
        filled_none s d e = none_is_some d (sym (empty s) ∙ e)

        no_ballot : (s : ℕ) → in_window new_table s ≡ true → (i : ℕ) (x : Ballot) → get_or (place_at new_table s).commits.of i None ≡ Some x → ⊥
        no_ballot s w i x e = none_is_some x (sym (none_of_none 16 i) ∙ (sym (ap (λ (p : Place). get_or p.commits.of i None) (Tables.new_place s w)) ∙ e))

    -- each call keeps it, given what its accepted seals stand for and that its batches were handed in
    after_full : (k : ℕ) (outbox : List Sealed) (c : Runs.Call) (w : Runs.Node X) → F k w → AllByRecursion Handed (Runs.batches_in c)
        → (is_ok (Runs.stepped value next marked w.core w.app outbox c).result ≡ true → AllByRecursion (λ r. Runs.accepts_in c r ≡ true → Calls.Vouch honest honest_client Issued AskedFor r.statement) (Runs.handed c))
        → ((a : Statement) → of_controllers a.kind ≡ false → Issued a) → F k (Runs.after value next marked w outbox c)
    unfolding Runs.after
    after_full k outbox (Runs.offer accepts p rs) w full got vouch others = Calls.offer_full value next marked start n k honest honest_client Issued Handed AskedFor accepts p rs outbox w full got.0 vouch
    after_full k outbox (Runs.vote accepts v) w full got vouch others = Calls.vote_full value next marked start n k honest honest_client Issued Handed AskedFor accepts v outbox w full vouch
    after_full k outbox (Runs.supply s rs) w full got vouch others = Calls.supply_full value next marked start n k honest honest_client Issued Handed AskedFor s rs outbox w full got.0
    after_full k outbox (Runs.prove accepts s rs list) w full got vouch others = Calls.prove_full value next marked start n k honest honest_client Issued Handed AskedFor accepts s rs list outbox w full got.0 vouch
    after_full k outbox Runs.give_up w full got vouch others = Changes.give_up_full value next marked start n (quorum n) k honest honest_client Issued Handed AskedFor outbox w full
    after_full k outbox (Runs.enter accepts new records) w full got vouch others =
        Changes.enter_full value next marked start n (quorum n) k honest honest_client Issued Handed AskedFor refl accepts new records outbox w full
        (λ ok. All-weaker _ _ (λ r v yes hon. voted (of_controllers r.statement.kind) refl (v yes) hon) records (vouch ok).1)
      where
        voted : {st : Statement} (b : Bool) → of_controllers st.kind ≡ b → Calls.Vouch honest honest_client Issued AskedFor st → honest st.signer ≡ true → Issued st
        voted {st} false e v hon = others st e
        voted {st} true e v hon = v.vote e hon
    after_full k outbox Runs.turn w full got vouch others = Changes.turn_full value next marked start n (quorum n) k honest honest_client Issued Handed AskedFor outbox w full

  -- an honest controller after any part of the run, where Issued, Handed and AskedFor hold of all that the run has
  module _ (n : ℕ) (honest honest_client : ℕ → Bool) (members : (k : ℕ) → honest k ≡ true → ((houses k).n ≡ n) × ((houses k).own ≡ k))
      (Issued : Statement → Type 0) (Handed : List Request → Type 0) (AskedFor : Statement → Type 0)
      (others : (a : Statement) → of_controllers a.kind ≡ false → Issued a) where
    all_in : {A : Type 0} (P : A → Type 0) (xs : List A) → ((x : A) → Runs.Has xs x → P x) → AllByRecursion P xs
    all_in P [] f = tt
    all_in P (x ∷ xs) f = (f x (inl refl), all_in P xs (λ y h. f y (inr h)))

    pub local_full : (k : ℕ) → honest k ≡ true → (run : List Runs.Event) → Runs.SealsHold value next marked start houses honest honest_client run
        → ((a : Statement) → Runs.Has (node a.signer run).issued a → Issued a) → ((rs : List Request) → Runs.Handed honest run rs → Handed rs) → ((st : Statement) → AskedBefore run st → AskedFor st)
        → Full value next start n (quorum n) k honest honest_client Issued Handed AskedFor (node k run)
    unfolding Runs.node
    local_full k hon [] seals iss hand ask = start_full n honest honest_client members Issued Handed AskedFor k hon
    local_full k hon (Runs.asks client timestamp payload ∷ older) seals iss hand ask =
        local_full k hon older seals iss hand (λ st h. ask st (before_asked older st h))
    local_full k hon (Runs.at i outbox c ∷ older) seals iss hand ask =
        let before = local_full k hon older seals.1 (λ a h. iss a (issued_more a.signer (Runs.at i outbox c) older a h)) (λ rs h. hand rs (inr h)) (λ st h. ask st (before_asked older st h)) in
        go (eqb i k) refl before
      where
        go : (b : Bool) → eqb i k ≡ b → Full value next start n (quorum n) k honest honest_client Issued Handed AskedFor (node k older)
            → Full value next start n (quorum n) k honest honest_client Issued Handed AskedFor (cond b (Runs.after value next marked (node k older) outbox c) (node k older))
        go false e full = full
        go true e full =
            let same : i ≡ k = eqb-true i k e in
            let mine = subst (λ z. honest z ≡ true) (sym same) hon in
            after_full n honest honest_client members Issued Handed AskedFor k outbox c (node k older) full
            (all_in Handed (Runs.batches_in c) (λ rs h. hand rs (inl (mine, h))))
            (λ ok. All-weaker _ _ (λ r v yes. vouch (v yes)) (Runs.handed c) (seals.0 mine (subst (λ z. is_ok (Runs.stepped value next marked (node z older).core (node z older).app outbox c).result ≡ true) (sym same) ok)))
            others
          where
            vouch : {st : Statement} → Runs.Vouched value next marked start houses honest honest_client older st → Calls.Vouch honest honest_client Issued AskedFor st
            vouch {st} v = record { request = λ a b. ask st (v.request a b); vote = λ a h. iss st (issued_more st.signer (Runs.at i outbox c) older st (v.vote a h)) }
