-- Offer, supply, prove and vote keep what holds of a controller.
use Rattle.std.proofs.Common.{◌≡◌, ℕ, zero, suc, ◌+◌, ◌<◌, ◌≤◌, Bool, true, false, cond, not, ◌&&◌, ◌||◌, eqb, ltb, leb, ◌⊎◌, List, [], ◌∷◌, ◌++◌, map, length, get_or, take, set, replicate, is_some, is_ok, Some, None, Option, unwrap_or, sym, refl, ap, ◌∙◌, subst, inl, inr, append-nil, arith}
use Rattle.std.specs.List.{AllByRecursion}
use Rattle.std.proofs.lemmas.List.{get_or-set_same, get_or-set_other, set_past}
use Rattle.std.proofs.lemmas.Bool.{or_parts, and_parts, eqb-true, ltb-false, leb-false, lt-ltb, not-false, cases_eq, cases_lt, false≢true}
use Rattle.wire.specs.declared.records.DigestValue.{DigestValue}
use Rattle.wire.specs.declared.records.Statement.{Statement}
use Rattle.wire.specs.declared.records.Sealed.{Sealed}
use Rattle.wire.specs.declared.records.Request.{Request}
use Rattle.wire.specs.Values.{value_of, same_digest, request_statement}
use Rattle.wire.specs.Frames.{requests_of, stored}
use Rattle.wire.proofs.Exact.{stored_back}
use Rattle.digest.specs.Batched.{batch_digest, bucket_of}
use Rattle.window.specs.Clients.{admits}
use Rattle.protocol.specs.Leaders.{in_bucket}
use Rattle.seal.specs.Records.{signer_of, none as none-record}
use Rattle.seal.proofs.Sameness.{same_digest_is, same_digest_self}
use Rattle.quorum.specs.Sizes.{quorum}
use Rattle.quorum.specs.Sets.{Quorum}
use Rattle.quorum.proofs.Counting.{quorum_at}
use Rattle.group.specs.Group.{exactly, list_fault, commits_fault}
use Rattle.group.proofs.Groups.{whole}
use Rattle.table.specs.declared.records.Ballot.{Ballot}
use Rattle.table.specs.declared.records.Place.{Place}
use Rattle.table.specs.declared.records.Table.{Table}
use Rattle.table.specs.declared.records.Votes.{Votes}
use Rattle.table.specs.Ballots.{just_backed, backers, listed}
use Rattle.table.specs.Window.{in_window, place_at, with_place, fill_at, supply_at, certify_at, move_to, row_at}
use Rattle.table.specs.Places.{empty_place, proposes, filled, supplied, prepared, committed, certified}
use Rattle.protocol.specs.declared.records.Core.{Core}
use Rattle.protocol.specs.declared.refusal.Refusal.{Refusal}
use Rattle.protocol.specs.State.{size, own, enough, with_table}
use Rattle.protocol.specs.Refusals.{first_of, at_record}
use Rattle.protocol.specs.Delivery.{begin, deliver_ready}
use Rattle.protocol.specs.Call.{called}
use Rattle.protocol.specs.Offer as Offer
use Rattle.protocol.specs.Supply as Supply
use Rattle.protocol.specs.Prove as Prove
use Rattle.protocol.specs.Vote as Vote
use Rattle.dossier.specs.Laws.{prepare_by}
use Rattle.house.specs.Runs.{Node, Has, as_sealed}
use Rattle.house.proofs.Sketch.{Sketch, Inv, Fills, Certifies, Settles, Same, commit_by}
use Rattle.house.proofs.Tables
use Rattle.house.proofs.Local
use Rattle.house.proofs.Checks.{passed, both, no_request_at, no_record_at, ok_called}
use Rattle.house.proofs.Full.{Heard, BatchOk, PlaceOk, DeliveredOk, OfferedOk, Origin, Full, grown, refused}
use Rattle.house.proofs.Flow.{flow_node, one_full, ready_full}
use Rattle.house.proofs.Options.{none_is_some, some_is_none, some_is}
use Rattle.wire.specs.declared.kinds.Kind.TheVariants.{Request as RequestKind, Prepare, Commit, Checkpoint}
use Rattle.wire.specs.Kinds.{same_kind}
use Rattle.wire.proofs.KindBytes.{same_kind_is}
use Rattle.wire.specs.Kinds.{of_controllers}
use Rattle.wire.proofs.KindBytes.{kinds_apart}

-- what an accepted seal stands for
pub record Vouch (honest honest_client : ℕ → Bool) (Issued AskedFor : Statement → Type 0) (st : Statement) : Type 0 where
  pub request : st.kind ≡ RequestKind → honest_client st.signer ≡ true → AskedFor st
  pub vote : of_controllers st.kind ≡ true → honest st.signer ≡ true → Issued st

none_of : {A : Type 0} (o : Option A) → is_some o ≡ false → o ≡ None
none_of None e = refl
none_of (Some x) e = absurd (false≢true (sym e))

pub none_of_none : (m i : ℕ) → ◌≡◌ {A = Option Ballot} (get_or (replicate m None) i None) None
none_of_none zero i = refl
none_of_none (suc m) zero = refl
none_of_none (suc m) (suc i) = none_of_none m i

-- a batch that passed its check
pub batch_ok : (value : List ℕ → DigestValue) (Handed : List Request → Type 0) (d : DigestValue) (rs : List Request) → Offer.no_batch_of value d rs ≡ false → Handed rs → BatchOk value Handed d rs
batch_ok value Handed d [] e h =
    let a = or_parts (ltb 16 0) _ e in
    let b = or_parts (not (same_digest (value_of 0) d)) _ a.1 in
    record { digest = same_digest_is _ _ (not-false _ b.0); got = inl refl }
batch_ok value Handed d (r ∷ rs) e h =
    let a = or_parts (ltb 16 (length (r ∷ rs))) _ e in
    let b = or_parts (not (same_digest (batch_digest value (r ∷ rs)) d)) _ a.1 in
    let is = same_digest_is _ _ (not-false _ b.0) in
    record {
      digest = is;
      got = inr (h, ltb-false 16 (length (r ∷ rs)) a.0, λ z. clash (same_digest (batch_digest value (r ∷ rs)) (value_of 0)) b.1 (subst (λ y. same_digest (batch_digest value (r ∷ rs)) y ≡ true) (is ∙ z) (same_digest_self (batch_digest value (r ∷ rs)))));
    }
  where
    clash : (t : Bool) → (ltb 0 (length (r ∷ rs)) && t) ≡ false → t ≡ true → ⊥
    clash true f g = let some : ltb 0 (length (r ∷ rs)) ≡ true = lt-ltb 0 (length (r ∷ rs)) (omega arith) in false≢true (sym f ∙ ap (λ b. b && true) some)
    clash false f g = false≢true g

pub few_requests : (value : List ℕ → DigestValue) (d : DigestValue) (rs : List Request) → Offer.no_batch_of value d rs ≡ false → length rs ≤ 16
few_requests value d rs e = ltb-false 16 (length rs) (or_parts (ltb 16 (length rs)) _ e).0

-- all requests of an offered batch have true seals
sealed_all : (accepts : Statement → ℕ → Bool) (value : List ℕ → DigestValue) (c : Core) (s : ℕ) (all : List Request) (i : ℕ) (rs : List Request) → Offer.first_bad accepts value c s all i rs ≡ None → AllByRecursion (λ r. accepts (request_statement r) r.seal ≡ true) rs
sealed_all accepts value c s all i [] e = tt
sealed_all accepts value c s all i (r ∷ rs) e = go (Offer.bad_request accepts value c s (take i all) r) refl e (sealed_all accepts value c s all (i + 1) rs)
  where
    go : (b : Bool) → Offer.bad_request accepts value c s (take i all) r ≡ b → cond b (Some i) (Offer.first_bad accepts value c s all (i + 1) rs) ≡ None
        → (Offer.first_bad accepts value c s all (i + 1) rs ≡ None → AllByRecursion (λ r. accepts (request_statement r) r.seal ≡ true) rs) → AllByRecursion (λ r. accepts (request_statement r) r.seal ≡ true) (r ∷ rs)
    go true h f ih = absurd (some_is_none i f)
    go false h f ih =
        let a = or_parts (not (admits c.windows r.client r.timestamp)) _ h in
        let b = or_parts (Offer.has_request (take i all) r) _ a.1 in
        let d = or_parts (Offer.known_from (c.table.stable + 1) c.delivered r c.table.places) _ b.1 in
        let e = or_parts (not (in_bucket (size c) c.view s (bucket_of value r.client r.timestamp))) (not (accepts (request_statement r) r.seal)) d.1 in
        (not-false (accepts (request_statement r) r.seal) e.1, ih f)

module _ (honest honest_client : ℕ → Bool) (Issued AskedFor : Statement → Type 0) where
  asked_all : (accepts : Statement → ℕ → Bool) (rs : List Request) → AllByRecursion (λ r. accepts (request_statement r) r.seal ≡ true) rs
      → AllByRecursion (λ r. accepts r.statement r.seal ≡ true → Vouch honest honest_client Issued AskedFor r.statement) (map as_sealed rs)
      → AllByRecursion (λ r. honest_client r.client ≡ true → AskedFor (request_statement r)) rs
  asked_all accepts [] a v = tt
  asked_all accepts (r ∷ rs) a v = (λ h. (v.0 a.0).request refl h, asked_all accepts rs a.1 v.1)

  -- commits of a list that proves a number
  heard_all : (accepts : Statement → ℕ → Bool) (e s : ℕ) (d : DigestValue) (list : List Sealed) → AllByRecursion (λ r. exactly accepts Commit e s d r ≡ true) list
      → AllByRecursion (λ r. accepts r.statement r.seal ≡ true → Vouch honest honest_client Issued AskedFor r.statement) list
      → AllByRecursion (λ r. Heard honest Issued (commit_by (signer_of r) e s d)) list
  heard_all accepts e s d [] a v = tt
  heard_all accepts e s d (r ∷ rs) a v =
      let st = r.statement in
      let k = and_parts (same_kind st.kind Commit) _ a.0 in
      let ep = and_parts (eqb st.epoch e) _ k.1 in
      let nu = and_parts (eqb st.number s) _ ep.1 in
      let he = and_parts (eqb st.held 0) _ nu.1 in
      let di = and_parts (same_digest st.digest d) _ he.1 in
      let kind : st.kind ≡ Commit = same_kind_is st.kind Commit k.0 in
      let is : st ≡ commit_by st.signer e s d = λ i. record { kind = kind i; signer = st.signer; epoch = eqb-true st.epoch e ep.0 i; number = eqb-true st.number s nu.0 i; held = eqb-true st.held 0 he.0 i; digest = same_digest_is st.digest d di.0 i } in
      (λ hon. subst Issued is ((v.0 di.1).vote (ap of_controllers kind) hon), heard_all accepts e s d rs a.1 v.1)

module _ {X : Type 0} (value : List ℕ → DigestValue) (next : X → ℕ → ℕ → ℕ → X) (marked : X → ℕ) (start : X) (n self : ℕ) (honest honest_client : ℕ → Bool)
    (Issued : Statement → Type 0) (Handed : List Request → Type 0) (AskedFor : Statement → Type 0) where
  abbrev F : Node X → Type 0
  F = Full value next start n (quorum n) self honest honest_client Issued Handed AskedFor

  abbrev I : Sketch → List Statement → Type 0
  I = Inv n (quorum n) self honest Issued

  abbrev V : (Statement → ℕ → Bool) → Sealed → Type 0
  V accepts r = accepts r.statement r.seal ≡ true → Vouch honest honest_client Issued AskedFor r.statement

  abbrev P : Core → ℕ → Place → DigestValue → Type 0
  P c s p d = PlaceOk value honest Issued Handed c.view.changing c.view.epoch s p d

  abbrev NoBallot : Place → Type 0
  NoBallot p = (i : ℕ) (x : Ballot) → get_or p.commits.of i None ≡ Some x → ⊥

  -- the table changes, and more may be issued
  abbrev with_tabled : Node X → Table → List Statement → Node X
  with_tabled k t issued = record { core = with_table k.core t; app = k.app; issued = issued; log = k.log }

  table_full : (k : Node X) (t : Table) (issued : List Statement) → F k → Tables.Long t → I (Tables.sketch_of (with_table k.core t)) issued
      → ((s : ℕ) (d : DigestValue) → Tables.filled_of t s ≡ Some d → P k.core s (place_at t s) d)
      → ((s : ℕ) → in_window t s ≡ true → (place_at t s).proposal ≡ None → NoBallot (place_at t s))
      → ((e s : ℕ) (d : DigestValue) → Has issued (prepare_by self e s d) → Origin value n (quorum n) honest honest_client Issued Handed AskedFor e s d)
      → F (with_tabled k t issued)
  table_full k t issued full long inv places bare origin = record {
    size = full.size;
    own = full.own;
    long = long;
    inv = inv;
    places = places;
    bare = bare;
    count = full.count;
    log = full.log;
    app = full.app;
    windows = full.windows;
    origin = origin;
  }

  -- one place changes: what is filled and certified elsewhere stays
  module _ (k : Node X) (full : F k) (s : ℕ) (p : Place) (inside : in_window k.core.table s ≡ true) where
    abbrev t : Table
    t = k.core.table

    abbrev u : Table
    u = with_place t s p

    new_places : ((d : DigestValue) → p.proposal ≡ Some d → P k.core s p d) → (x : ℕ) (d : DigestValue) → Tables.filled_of u x ≡ Some d → P k.core x (place_at u x) d
    new_places ok x d e = go (cases_eq x s)
      where
        within : in_window t x ≡ true
        within = sym (Tables.with_window t s p x) ∙ Tables.filled_within u x d e

        proposal : (place_at u x).proposal ≡ Some d
        proposal = sym (ap (λ w. cond w (place_at u x).proposal None) (Tables.filled_within u x d e)) ∙ e

        go : (x ≡ s) ⊎ (x ≡ s → ⊥) → P k.core x (place_at u x) d
        go (inl h) =
            let here : place_at u x ≡ p = ap (place_at u) h ∙ Tables.with_here t s p full.long inside in
            subst (λ z. P k.core z (place_at u x) d) (sym h) (subst (λ z. P k.core s z d) (sym here) (ok d (sym (ap (λ (z : Place). z.proposal) here) ∙ proposal)))
        go (inr h) =
            let there : place_at u x ≡ place_at t x = Tables.with_else t s p x inside within h in
            let old : Tables.filled_of t x ≡ Some d = ap (λ w. cond w (place_at t x).proposal None) within ∙ (sym (ap (λ (z : Place). z.proposal) there) ∙ proposal) in
            subst (λ z. P k.core x z d) (sym there) (full.places x d old)

    new_bare : (p.proposal ≡ None → NoBallot p) → (x : ℕ) → in_window u x ≡ true → (place_at u x).proposal ≡ None → NoBallot (place_at u x)
    new_bare ok x w e = go (cases_eq x s)
      where
        within : in_window t x ≡ true
        within = sym (Tables.with_window t s p x) ∙ w

        go : (x ≡ s) ⊎ (x ≡ s → ⊥) → NoBallot (place_at u x)
        go (inl h) =
            let here : place_at u x ≡ p = ap (place_at u) h ∙ Tables.with_here t s p full.long inside in
            subst NoBallot (sym here) (ok (sym (ap (λ (z : Place). z.proposal) here) ∙ e))
        go (inr h) =
            let there : place_at u x ≡ place_at t x = Tables.with_else t s p x inside within h in
            subst NoBallot (sym there) (full.bare x within (sym (ap (λ (z : Place). z.proposal) there) ∙ e))

    -- neither what it is filled with nor its certificate changes
    keep_full : p.proposal ≡ (place_at t s).proposal → p.certificate ≡ (place_at t s).certificate → ((d : DigestValue) → p.proposal ≡ Some d → P k.core s p d) → (p.proposal ≡ None → NoBallot p) → F (with_tabled k u k.issued)
    keep_full a b ok none =
        let same = Tables.keep_sketch t s p full.long a b in
        let S = Tables.sketch_of k.core in
        let R = Tables.sketch_of (with_table k.core u) in
        let step : Same S R = record { epoch = refl; changing = refl; first = refl; last = refl; stable = Tables.with_stable t s p; filled = same.0; cert = same.1 } in
        table_full k u k.issued full (Tables.with_long t s p full.long)
        (Local.same_inv n (quorum n) self honest Issued S R k.issued k.issued step (λ a h. h) (λ a h. inl h) full.inv) (new_places ok) (new_bare none) full.origin

  -- OFFER

  pub offer_full : (accepts : Statement → ℕ → Bool) (p : Sealed) (rs : List Request) (outbox : List Sealed) (k : Node X) → F k → Handed rs
      → (is_ok (Offer.offered accepts value k.core k.app outbox p rs).result ≡ true → AllByRecursion (V accepts) (p ∷ map as_sealed rs))
      → F (grown k (Offer.offered accepts value k.core k.app outbox p rs))
  offer_full accepts p rs outbox k full got vouch = go (Offer.offer_refusal accepts value k.core outbox p rs) refl
    where
      go : (r : Option Refusal) → Offer.offer_refusal accepts value k.core outbox p rs ≡ r → F (grown k (called k.core k.app outbox r (Offer.offer_effect k.core k.app p rs)))
      go (Some r) e = subst F (sym (refused k outbox r (Offer.offer_effect k.core k.app p rs))) full
      go None e =
          let c = k.core in
          let st = p.statement in
          let s = st.number in
          let d = st.digest in
          let two = both _ _ e in
          let ps = passed (Offer.offer_checks accepts value c outbox p rs) two.0 in
          let steady = (or_parts c.view.changing (not (eqb st.epoch c.view.epoch)) ps.1.1.1.0).0 in
          let n1 = or_parts (leb s c.table.stable) _ ps.1.1.1.1.0 in
          let n2 = or_parts (leb s c.delivered) _ n1.1 in
          let n3 = or_parts (ltb s c.view.first) _ n2.1 in
          let n4 = or_parts (Offer.above_last c.view.last s) _ n3.1 in
          let n5 = or_parts (ltb (c.table.stable + 32) s) _ n4.1 in
          let low = leb-false s c.table.stable n1.0 in
          let high = ltb-false (c.table.stable + 32) s n5.0 in
          let inside = Tables.window_from c.table s low high in
          let free = none_of (place_at c.table s).proposal ps.1.1.1.1.1.0 in
          let bad = ps.1.1.1.1.1.1.1.0 in
          let ok = batch_ok value Handed d rs bad got in
          let few = few_requests value d rs bad in
          let fill = Tables.fill_sketch c s d (Some (stored rs)) full.long inside in
          let t = fill_at c.table s d (Some (stored rs)) in
          let S = Tables.sketch_of c in
          let R = Tables.sketch_of (with_table c t) in
          let step : Fills S R s d = record {
            steady = steady;
            epoch = refl;
            changing = refl;
            first = refl;
            last = refl;
            stable = Tables.with_stable c.table s (filled d (Some (stored rs)) (place_at c.table s));
            low = low;
            high = high;
            from = ltb-false s c.view.first n3.0;
            to = λ l h. ltb-false l s (subst (λ o. Offer.above_last o s ≡ false) h n4.0);
            was = ap (λ w. cond w (place_at c.table s).proposal None) inside ∙ free;
            here = fill.0;
            else = fill.1;
            cert = fill.2;
          } in
          let inv = Local.fills_inv n (quorum n) self honest Issued S R s d k.issued step full.inv in
          let mine = ap (λ i. prepare_by i c.view.epoch s d ∷ k.issued) (sym full.own) in
          let asked = asked_all honest honest_client Issued AskedFor accepts rs (sealed_all accepts value c s rs 0 rs (no_request_at _ two.1)) (vouch (ok_called c k.app outbox _ _ e)).1 in
          let place : (z : DigestValue) → Some d ≡ Some z → P c s (filled d (Some (stored rs)) (place_at c.table s)) z = λ z h. subst (P c s (filled d (Some (stored rs)) (place_at c.table s))) (some_is d z h) (record {
            in_epoch = c.view.epoch;
            begun = full.inv.begun;
            current = λ _. refl;
            commits = λ i x b. absurd (full.bare s inside free i x b);
            batch = λ b h. subst (λ y. BatchOk value Handed d (requests_of y)) (some_is (stored rs) b h) (subst (BatchOk value Handed d) (sym (stored_back rs few)) ok);
          }) in
          let node = table_full k t (prepare_by self c.view.epoch s d ∷ k.issued) full (Tables.with_long c.table s _ full.long) inv
          (new_places k full s (filled d (Some (stored rs)) (place_at c.table s)) inside place)
          (new_bare k full s (filled d (Some (stored rs)) (place_at c.table s)) inside (λ h. absurd (some_is_none d h)))
          (origin d (record { rs = rs; digest = ok.digest; handed = got; few = few; asked = asked })) in
          subst (λ l. F (record { core = with_table c t; app = k.app; issued = prepare_by c.house.own c.view.epoch s d ∷ k.issued; log = l })) (sym (append-nil k.log))
          (subst (λ is. F (record { core = with_table c t; app = k.app; issued = is; log = k.log })) mine node)
        where
          origin : (d : DigestValue) → OfferedOk value honest_client Handed AskedFor d
              → (e' s' : ℕ) (d' : DigestValue) → Has (prepare_by self k.core.view.epoch p.statement.number d ∷ k.issued) (prepare_by self e' s' d')
              → Origin value n (quorum n) honest honest_client Issued Handed AskedFor e' s' d'
          origin d ok e' s' d' (inr h) = full.origin e' s' d' h
          origin d ok e' s' d' (inl h) = inl (subst (OfferedOk value honest_client Handed AskedFor) (ap (λ (a : Statement). a.digest) h) ok)

  -- DELIVERY: a call that changed the table, and issued something, goes on to deliver
  begin_full : (c : Core) (k : Node X) (issued : List Statement) → F (record { core = c; app = k.app; issued = issued ++ k.issued; log = k.log }) → F (flow_node value next marked start n self honest honest_client Issued Handed AskedFor c k (begin next marked c k.app issued))
  begin_full c k issued full = subst (λ l. F (record { core = c; app = k.app; issued = issued ++ k.issued; log = l })) (sym (append-nil k.log)) full

  go_on : (c : Core) (k : Node X) (issued : List Statement) → F (record { core = c; app = k.app; issued = issued ++ k.issued; log = k.log })
      → F (flow_node value next marked start n self honest honest_client Issued Handed AskedFor c k (deliver_ready next marked 32 c (begin next marked c k.app issued)))
  go_on c k issued full =
      ready_full value next marked start n self honest honest_client Issued Handed AskedFor 32 c k (begin next marked c k.app issued) (begin_full c k issued full)

  -- SUPPLY

  pub supply_full : (s : ℕ) (rs : List Request) (outbox : List Sealed) (k : Node X) → F k → Handed rs → F (grown k (Supply.supplied next marked value k.core k.app outbox s rs))
  supply_full s rs outbox k full got = go (Supply.supply_refusal value k.core outbox s rs) refl
    where
      go : (r : Option Refusal) → Supply.supply_refusal value k.core outbox s rs ≡ r → F (grown k (called k.core k.app outbox r (Supply.supply_effect next marked k.core k.app s rs)))
      go (Some r) e = subst F (sym (refused k outbox r (Supply.supply_effect next marked k.core k.app s rs))) full
      go None e =
          let c = k.core in
          let ps = passed (Supply.supply_checks value c outbox s rs) e in
          let inside = not-false (in_window c.table s) ps.1.0 in
          let bad = ps.1.1.1.0 in
          let few = few_requests value _ rs bad in
          let p = place_at c.table s in
          let q = supplied (stored rs) p in
          let filled : (d : DigestValue) → p.proposal ≡ Some d → Tables.filled_of c.table s ≡ Some d = λ d h. ap (λ w. cond w p.proposal None) inside ∙ h in
          let place : (d : DigestValue) → p.proposal ≡ Some d → P c s q d = λ d h.
          let ok = full.places s d (filled d h) in
          let is : unwrap_or p.proposal (value_of 0) ≡ d = ap (λ o. unwrap_or o (value_of 0)) h in
          let of = subst (λ z. BatchOk value Handed z rs) is (batch_ok value Handed (unwrap_or p.proposal (value_of 0)) rs bad got) in
          record {
            in_epoch = ok.in_epoch;
            begun = ok.begun;
            current = ok.current;
            commits = ok.commits;
            batch = λ b g. subst (λ y. BatchOk value Handed d (requests_of y)) (some_is (stored rs) b g) (subst (BatchOk value Handed d) (sym (stored_back rs few)) of);
          } in
          go_on (with_table c (supply_at c.table s (stored rs))) k [] (keep_full k full s q inside refl refl place (full.bare s inside))

  -- PROVE

  pub prove_full : (accepts : Statement → ℕ → Bool) (s : ℕ) (rs : List Request) (list : List Sealed) (outbox : List Sealed) (k : Node X) → F k → Handed rs
      → (is_ok (Prove.proved next marked accepts value k.core k.app outbox s rs list).result ≡ true → AllByRecursion (V accepts) list)
      → F (grown k (Prove.proved next marked accepts value k.core k.app outbox s rs list))
  prove_full accepts s rs list outbox k full got vouch = go (Prove.prove_refusal accepts value k.core outbox s rs list) refl
    where
      D : ℕ → List Request → Type 0
      D = DeliveredOk value n (quorum n) honest Issued Handed

      -- the list proves the number
      shown : (m : ℕ) → k.core.house.n ≡ m → (e : ℕ) → AllByRecursion (V accepts) list → list_fault signer_of (exactly accepts Commit e s (Prove.proved_digest list)) m (quorum m) list ≡ None → BatchOk value Handed (Prove.proved_digest list) rs → m ≡ n → DeliveredOk value n (quorum n) honest Issued Handed s rs
      shown m is e vs none ok size =
          let w = whole signer_of (exactly accepts Commit e s (Prove.proved_digest list)) m (quorum m) list none in
          let hs = heard_all honest honest_client Issued AskedFor accepts e s (Prove.proved_digest list) list w.passes vs in
          let qs = quorum_at signer_of m (quorum m) (λ i. Heard honest Issued (commit_by i e s (Prove.proved_digest list))) list w.ascends hs (omega (arith, w.long)) in
          record { epoch = e; digest = Prove.proved_digest list; quorum = subst (λ z. Quorum z (quorum z) (λ i. Heard honest Issued (commit_by i e s (Prove.proved_digest list)))) size qs; batch = ok }

      go : (r : Option Refusal) → Prove.prove_refusal accepts value k.core outbox s rs list ≡ r → F (grown k (called k.core k.app outbox r (Prove.prove_effect next marked k.core k.app rs)))
      go (Some r) e = subst F (sym (refused k outbox r (Prove.prove_effect next marked k.core k.app rs))) full
      go None e =
          let c = k.core in
          let two = both (first_of (Prove.prove_checks c outbox s)) _ e in
          let three = both (at_record (commits_fault accepts (size c) (enough c) s list)) _ two.1 in
          let ps = passed (Prove.prove_checks c outbox s) two.0 in
          let bad = (passed (Prove.proof_checks value rs list) three.1).0 in
          let is : s ≡ c.delivered + 1 = eqb-true s (c.delivered + 1) (not-false _ (or_parts (not (eqb s (c.delivered + 1))) _ ps.1.0).0) in
          let none = no_record_at (commits_fault accepts (size c) (enough c) s list) three.0 in
          let ok = batch_ok value Handed (Prove.proved_digest list) rs bad got in
          let fault = right (eqb (get_or list 0 none-record).statement.epoch 0) none in
          let d = shown c.house.n refl (get_or list 0 none-record).statement.epoch (vouch (ok_called c k.app outbox _ _ e)) fault ok full.size in
          let began = begin_full c k [] full in
          let one = one_full value next marked start n self honest honest_client Issued Handed AskedFor c k (begin next marked c k.app []) rs began (subst (λ m. D m rs) is d) in
          ready_full value next marked start n self honest honest_client Issued Handed AskedFor 32 c k _ one
        where
          right : (b : Bool) → cond b (Some 0) (list_fault signer_of (exactly accepts Commit (get_or list 0 none-record).statement.epoch s (Prove.proved_digest list)) k.core.house.n (quorum k.core.house.n) list) ≡ None
              → list_fault signer_of (exactly accepts Commit (get_or list 0 none-record).statement.epoch s (Prove.proved_digest list)) k.core.house.n (quorum k.core.house.n) list ≡ None
          right true h = absurd (some_is_none 0 h)
          right false h = h

  -- VOTE

  -- a higher number becomes stable
  moved_full : (k : Node X) (s : ℕ) (v : Votes) → F k → k.core.table.stable < s → F (with_tabled k (move_to k.core.table s v) k.issued)
  moved_full k s v full up =
      let t = k.core.table in
      let u = move_to t s v in
      let S = Tables.sketch_of k.core in
      let R = Tables.sketch_of (with_table k.core u) in
      let at = Tables.move_stable t s v up in
      let step : Settles S R = record {
        epoch = refl;
        changing = refl;
        first = refl;
        last = refl;
        stable = omega (arith, at);
        gone = λ x h. Tables.move_gone u x h;
        filled = λ x h. (Tables.move_sketch t s v full.long x h).0;
        cert = λ x h. (Tables.move_sketch t s v full.long x h).1;
      } in
      table_full k u k.issued full (Tables.move_long t s v full.long)
      (Local.settles_inv n (quorum n) self honest Issued S R k.issued step (λ x h. near x (Tables.filled_of u x) refl h) full.inv) places bare full.origin
    where
      t : Table
      t = k.core.table

      near : (x : ℕ) (o : Option DigestValue) → Tables.filled_of (move_to k.core.table s v) x ≡ o → is_some o ≡ true → x ≤ (move_to k.core.table s v).stable + 32
      near x None e h = absurd (false≢true h)
      near x (Some d) e h = (Tables.window_parts (move_to k.core.table s v) x (Tables.filled_within (move_to k.core.table s v) x d e)).1

      -- where the place of x is after the move
      at_x : (x : ℕ) → in_window (move_to k.core.table s v) x ≡ true → ((in_window k.core.table x ≡ true) × (place_at (move_to k.core.table s v) x ≡ place_at k.core.table x)) ⊎ (place_at (move_to k.core.table s v) x ≡ empty_place)
      at_x x w =
          let parts = Tables.window_parts (move_to k.core.table s v) x w in
          let at = Tables.move_stable k.core.table s v up in
          go (omega (arith, parts.0, at)) (omega (arith, parts.1, at)) (cases_lt (k.core.table.stable + 32) x)
        where
          go : s < x → x ≤ s + 32 → (k.core.table.stable + 32 < x) ⊎ (x ≤ k.core.table.stable + 32) → ((in_window k.core.table x ≡ true) × (place_at (move_to k.core.table s v) x ≡ place_at k.core.table x)) ⊎ (place_at (move_to k.core.table s v) x ≡ empty_place)
          go a b (inl h) = inr (Tables.move_new k.core.table s v x full.long up a h b)
          go a b (inr h) = inl (Tables.window_from k.core.table x (omega arith) h, Tables.move_kept k.core.table s v x full.long up a h)

      places : (x : ℕ) (d : DigestValue) → Tables.filled_of (move_to k.core.table s v) x ≡ Some d → P k.core x (place_at (move_to k.core.table s v) x) d
      places x d e =
          let w = Tables.filled_within (move_to k.core.table s v) x d e in
          go (at_x x w) (sym (ap (λ b. cond b (place_at (move_to k.core.table s v) x).proposal None) w) ∙ e)
        where
          go : ((in_window k.core.table x ≡ true) × (place_at (move_to k.core.table s v) x ≡ place_at k.core.table x)) ⊎ (place_at (move_to k.core.table s v) x ≡ empty_place) → (place_at (move_to k.core.table s v) x).proposal ≡ Some d → P k.core x (place_at (move_to k.core.table s v) x) d
          go (inl h) f = subst (λ z. P k.core x z d) (sym h.1) (full.places x d (ap (λ b. cond b (place_at k.core.table x).proposal None) h.0 ∙ (sym (ap (λ (z : Place). z.proposal) h.1) ∙ f)))
          go (inr h) f = absurd (none_is_some d (sym (ap (λ (z : Place). z.proposal) h) ∙ f))

      bare : (x : ℕ) → in_window (move_to k.core.table s v) x ≡ true → (place_at (move_to k.core.table s v) x).proposal ≡ None → NoBallot (place_at (move_to k.core.table s v) x)
      bare x w e = go (at_x x w)
        where
          go : ((in_window k.core.table x ≡ true) × (place_at (move_to k.core.table s v) x ≡ place_at k.core.table x)) ⊎ (place_at (move_to k.core.table s v) x ≡ empty_place) → NoBallot (place_at (move_to k.core.table s v) x)
          go (inl h) = subst NoBallot (sym h.1) (full.bare x h.0 (sym (ap (λ (z : Place). z.proposal) h.1) ∙ e))
          go (inr h) = subst NoBallot (sym h) (λ i b f. none_is_some b (sym (none_of_none 16 i) ∙ f))

  -- what a vote's table and statements are
  module _ (accepts : Statement → ℕ → Bool) (v : Sealed) (outbox : List Sealed) (k : Node X) (full : F k) where
    abbrev c : Core
    c = k.core

    abbrev st : Statement
    st = v.statement

    abbrev goal : Table → List Statement → Type 0
    goal t issued = F (record { core = with_table k.core t; app = k.app; issued = issued ++ k.issued; log = k.log })

    -- a place that is filled with the vote's digest
    proposed : (o : Option DigestValue) (d : DigestValue) → proposes o d ≡ true → o ≡ Some d
    proposed None d e = absurd (false≢true e)
    proposed (Some e) d h = ap Some (same_digest_is e d h)

    prepare_full : c.view.changing ≡ false → in_window c.table st.number ≡ true → proposes (place_at c.table st.number).proposal st.digest ≡ true → goal (Vote.prepare_table c v) (Vote.prepare_issued c v)
    prepare_full steady inside is = go (Vote.now_prepared c v) refl
      where
        x : Ballot
        x = Vote.ballot_of v

        k1 : Node X
        k1 = with_tabled k (Vote.with_prepare c v) k.issued

        full1 : F (with_tabled k (Vote.with_prepare c v) k.issued)
        full1 =
            let s = st.number in
            let p = place_at c.table s in
            keep_full k full s (prepared st.signer (Vote.ballot_of v) p) inside refl refl
            (λ d h. let ok = full.places s d (ap (λ w. cond w p.proposal None) inside ∙ h) in record { in_epoch = ok.in_epoch; begun = ok.begun; current = ok.current; commits = ok.commits; batch = ok.batch })
            (full.bare s inside)

        go : (b : Bool) → Vote.now_prepared c v ≡ b
            → goal (cond b (certify_at (Vote.with_prepare c v) st.number c.view.epoch st.digest) (Vote.with_prepare c v)) (cond b (Vote.commit_of (own c) c.view.epoch st.number st.digest ∷ []) [])
        go false h = full1
        go true h =
            let s = st.number in
            let d = st.digest in
            let t1 = Vote.with_prepare c v in
            let p1 = place_at t1 s in
            let inside1 = Tables.with_window c.table s (prepared st.signer (Vote.ballot_of v) (place_at c.table s)) s ∙ inside in
            let here = Tables.with_here c.table s (prepared st.signer (Vote.ballot_of v) (place_at c.table s)) full.long inside in
            let filled_d : p1.proposal ≡ Some d = ap (λ (z : Place). z.proposal) here ∙ proposed (place_at c.table s).proposal d is in
            let marks = Tables.certify_sketch t1 s c.view.epoch d full1.long inside1 in
            let t2 = certify_at t1 s c.view.epoch d in
            let S = Tables.sketch_of (with_table c t1) in
            let R = Tables.sketch_of (with_table c t2) in
            let p2 = certified c.view.epoch d p1 in
            let step : Certifies S R s d = record {
              steady = steady;
              epoch = refl;
              changing = refl;
              first = refl;
              last = refl;
              stable = Tables.with_stable t1 s p2;
              is = ap (λ w. cond w p1.proposal None) inside1 ∙ filled_d;
              filled = marks.0;
              here = marks.1;
              else = marks.2;
            } in
            let inv = Local.certifies_inv n (quorum n) self honest Issued S R s d k.issued step full1.inv in
            let place : (z : DigestValue) → p2.proposal ≡ Some z → P c s p2 z = λ z e.
            let ok = full1.places s z (ap (λ w. cond w p1.proposal None) inside1 ∙ e) in
            record { in_epoch = ok.in_epoch; begun = ok.begun; current = ok.current; commits = ok.commits; batch = ok.batch } in
            let node = table_full (with_tabled k t1 k.issued) t2 (commit_by self c.view.epoch s d ∷ k.issued) full1 (Tables.with_long t1 s p2 full1.long) inv
            (new_places (with_tabled k t1 k.issued) full1 s p2 inside1 place)
            (new_bare (with_tabled k t1 k.issued) full1 s p2 inside1 (full1.bare s inside1))
            (λ e s' d' h. old e s' d' h) in
            subst (λ i. F (record { core = with_table c t2; app = k.app; issued = commit_by i c.view.epoch s d ∷ k.issued; log = k.log })) (sym full.own) node
          where
            old : (e s' : ℕ) (d' : DigestValue) → Has (commit_by self c.view.epoch st.number st.digest ∷ k.issued) (prepare_by self e s' d') → Origin value n (quorum n) honest honest_client Issued Handed AskedFor e s' d'
            old e s' d' (inl h) = absurd (kinds_apart (ap (λ (a : Statement). a.kind) h) refl)
            old e s' d' (inr h) = full.origin e s' d' h

    commit_full : c.view.changing ≡ false → st.epoch ≡ c.view.epoch → st.kind ≡ Commit → st.held ≡ 0 → in_window c.table st.number ≡ true → proposes (place_at c.table st.number).proposal st.digest ≡ true
        → Heard honest Issued st → goal (Vote.commit_table c v) []
    commit_full steady epoch kind held inside is heard =
        let s = st.number in
        let p = place_at c.table s in
        keep_full k full s (committed st.signer (Vote.ballot_of v) p) inside refl refl
        (λ d h. let ok = full.places s d (ap (λ w. cond w p.proposal None) inside ∙ h) in
        record { in_epoch = ok.in_epoch; begun = ok.begun; current = ok.current; commits = λ i x e. cast ok.in_epoch (ok.current steady) ok.commits i x e; batch = ok.batch })
        (λ h. absurd (none_is_some st.digest (sym h ∙ proposed p.proposal st.digest is)))
      where
        cast : (e : ℕ) → e ≡ c.view.epoch
            → ((i : ℕ) (x : Ballot) → get_or (place_at c.table st.number).commits.of i None ≡ Some x → Heard honest Issued (commit_by i e st.number x.digest))
            → (i : ℕ) (x : Ballot) → get_or (set (place_at c.table st.number).commits.of st.signer (Some (Vote.ballot_of v))) i None ≡ Some x → Heard honest Issued (commit_by i e st.number x.digest)
        cast e now old i x f = go (cases_eq i st.signer) (cases_lt st.signer (length (place_at c.table st.number).commits.of))
          where
            bs : List (Option Ballot)
            bs = (place_at c.table st.number).commits.of

            is_st : st ≡ commit_by st.signer e st.number st.digest
            is_st = let ep = epoch ∙ sym now in λ j. record { kind = kind j; signer = st.signer; epoch = ep j; number = st.number; held = held j; digest = st.digest }

            go : (i ≡ st.signer) ⊎ (i ≡ st.signer → ⊥) → (st.signer < length (place_at c.table st.number).commits.of) ⊎ (length (place_at c.table st.number).commits.of ≤ st.signer) → Heard honest Issued (commit_by i e st.number x.digest)
            go (inl h) (inl l) =
                let same : Vote.ballot_of v ≡ x = some_is _ x (sym (get_or-set_same (place_at c.table st.number).commits.of st.signer (Some (Vote.ballot_of v)) None l) ∙ (ap (λ z. get_or (set (place_at c.table st.number).commits.of st.signer (Some (Vote.ballot_of v))) z None) (sym h) ∙ f)) in
                subst (λ z. Heard honest Issued (commit_by z e st.number x.digest)) (sym h)
                (subst (λ (z : Ballot). Heard honest Issued (commit_by st.signer e st.number z.digest)) same (subst (Heard honest Issued) is_st heard))
            go (inl h) (inr l) = old i x (sym (ap (λ z. get_or z i None) (set_past (place_at c.table st.number).commits.of st.signer (Some (Vote.ballot_of v)) l)) ∙ f)
            go (inr h) l = old i x (sym (get_or-set_other (place_at c.table st.number).commits.of st.signer i (Some (Vote.ballot_of v)) None h) ∙ f)

    checkpoint_full : in_window c.table st.number ≡ true → goal (Vote.checkpoint_table c v) []
    checkpoint_full inside = go (just_backed (size c) (enough c) st.digest (row_at (Vote.with_checkpoint c v) st.number))
      where
        full1 : F (with_tabled k (Vote.with_checkpoint c v) k.issued)
        full1 = table_full k (Vote.with_checkpoint c v) k.issued full full.long full.inv full.places full.bare full.origin

        go : (b : Bool) → goal (cond b (move_to (Vote.with_checkpoint c v) st.number (listed (backers st.digest (row_at (Vote.with_checkpoint c v) st.number)))) (Vote.with_checkpoint c v)) []
        go false = full1
        go true = moved_full (with_tabled k (Vote.with_checkpoint c v) k.issued) st.number (listed (backers st.digest (row_at (Vote.with_checkpoint c v) st.number))) full1 (Tables.window_parts c.table st.number inside).0

    pub vote_full : (is_ok (Vote.voted next marked accepts k.core k.app outbox v).result ≡ true → AllByRecursion (V accepts) (v ∷ [])) → F (grown k (Vote.voted next marked accepts k.core k.app outbox v))
    vote_full vouch = go (Vote.vote_refusal accepts k.core outbox v) refl
      where
        go : (r : Option Refusal) → Vote.vote_refusal accepts k.core outbox v ≡ r → F (grown k (called k.core k.app outbox r (Vote.vote_effect next marked k.core k.app v)))
        go (Some r) e = subst F (sym (refused k outbox r (Vote.vote_effect next marked k.core k.app v))) full
        go None e =
            let ps = passed (Vote.vote_checks accepts c outbox v) e in
            let k1 = or_parts (not (Vote.of_epoch st.kind || same_kind st.kind Checkpoint)) _ ps.1.0 in
            let k2 = or_parts (not (eqb st.held 0)) _ k1.1 in
            let held : st.held ≡ 0 = eqb-true st.held 0 (not-false (eqb st.held 0) k2.0) in
            let inside = not-false (in_window c.table st.number) (or_parts (not (in_window c.table st.number)) _ ps.1.1.1.1.0).0 in
            let vouched = (vouch (ok_called c k.app outbox _ _ e)).0 (not-false (accepts st v.seal) ps.1.1.1.1.1.1.1.0) in
            go_on (with_table c (Vote.vote_table c v)) k (Vote.vote_issued c v)
            (three (same_kind st.kind Prepare) refl (same_kind st.kind Commit) refl held inside vouched ps.1.1.1.0 ps.1.1.1.1.1.0)
          where
            -- the facts of a vote of the epoch
            now : (b : Bool) → b ≡ true → (b && (c.view.changing || not (eqb st.epoch c.view.epoch))) ≡ false → (c.view.changing ≡ false) × (st.epoch ≡ c.view.epoch)
            now b t f =
                let g = or_parts c.view.changing (not (eqb st.epoch c.view.epoch)) (sym (ap (λ z. z && (c.view.changing || not (eqb st.epoch c.view.epoch))) t) ∙ f) in
                (g.0, eqb-true _ _ (not-false _ g.1))

            named : (b : Bool) → b ≡ true → (b && not (proposes (place_at c.table st.number).proposal st.digest)) ≡ false → proposes (place_at c.table st.number).proposal st.digest ≡ true
            named b t f = not-false _ (sym (ap (λ z. z && not (proposes (place_at c.table st.number).proposal st.digest)) t) ∙ f)

            three : (a : Bool) → same_kind st.kind Prepare ≡ a → (b : Bool) → same_kind st.kind Commit ≡ b → st.held ≡ 0 → in_window c.table st.number ≡ true → Vouch honest honest_client Issued AskedFor st
                → (Vote.of_epoch st.kind && (c.view.changing || not (eqb st.epoch c.view.epoch))) ≡ false
                → (Vote.of_epoch st.kind && not (proposes (place_at c.table st.number).proposal st.digest)) ≡ false
                → goal (cond a (Vote.prepare_table c v) (cond b (Vote.commit_table c v) (Vote.checkpoint_table c v))) (cond a (Vote.prepare_issued c v) [])
            three true is b is4 held inside vouched ep prop =
                let of : Vote.of_epoch st.kind ≡ true = ap (λ z. z || same_kind st.kind Commit) is in
                prepare_full (now (Vote.of_epoch st.kind) of ep).0 inside (named (Vote.of_epoch st.kind) of prop)
            three false is true is4 held inside vouched ep prop =
                let of : Vote.of_epoch st.kind ≡ true = (λ i. is i || is4 i) in
                let kind : st.kind ≡ Commit = same_kind_is st.kind Commit is4 in
                let g = now (Vote.of_epoch st.kind) of ep in
                commit_full g.0 g.1 kind held inside (named (Vote.of_epoch st.kind) of prop) (λ hon. vouched.vote (ap of_controllers kind) hon)
            three false is false is4 held inside vouched ep prop = checkpoint_full inside
