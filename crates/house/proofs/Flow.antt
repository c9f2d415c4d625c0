-- Delivery keeps what holds of a controller.
use Rattle.std.proofs.Common.{◌≡◌, ℕ, zero, suc, ◌+◌, ◌%◌, ◌<◌, Bool, true, false, cond, eqb, ◌⊎◌, List, [], ◌∷◌, ◌++◌, length, get_or, Some, None, Option, sym, refl, ap, ◌∙◌, subst, inl, inr, append_assoc, arith}
use Rattle.std.specs.List.{flat_map}
use Rattle.std.proofs.lemmas.List.{flat_map_more, length-append, get_or_append_left, get_or_at}
use Rattle.std.proofs.lemmas.Bool.{cases_eq}
use Rattle.wire.specs.declared.records.DigestValue.{DigestValue}
use Rattle.wire.specs.declared.records.Statement.{Statement}
use Rattle.wire.specs.declared.records.Request.{Request}
use Rattle.wire.specs.declared.records.Batch.{Batch}
use Rattle.wire.specs.Frames.{requests_of}
use Rattle.quorum.specs.Sizes.{quorum}
use Rattle.quorum.specs.Sets.{Quorum}
use Rattle.table.specs.declared.records.Ballot.{Ballot}
use Rattle.table.specs.declared.records.Table.{Table}
use Rattle.table.specs.Ballots.{backed}
use Rattle.table.specs.Window.{in_window, place_at}
use Rattle.window.specs.Clients.{all_fresh}
use Rattle.window.specs.Deliveries.{Course, delivered}
use Rattle.window.proofs.Joining.{delivery_joins}
use Rattle.protocol.specs.declared.records.Core.{Core}
use Rattle.protocol.specs.State.{size, own, enough}
use Rattle.protocol.specs.Delivery.{Flow, known, committed_batch, ready, checkpoint_of, onto, deliver_one, deliver_ready}
use Rattle.dossier.specs.Laws.{prepare_by}
use Rattle.house.specs.Runs.{Node, Has}
use Rattle.house.proofs.Sketch.{Sketch, Same, commit_by}
use Rattle.house.proofs.Tables.{filled_of, sketch_of, has_append, has_left, has_right}
use Rattle.house.proofs.Local.{same_inv}
use Rattle.house.proofs.Backers.{backed_quorum}
use Rattle.house.proofs.Full.{Full, BatchOk, DeliveredOk, Origin}
use Rattle.house.proofs.Options.{none_is_some, some_is}
use Rattle.wire.specs.declared.kinds.Kind.TheVariants.{Prepare, Checkpoint}
use Rattle.wire.proofs.KindBytes.{kinds_apart}

pub same_sketch : (S : Sketch) → Same S S
same_sketch S = record { epoch = refl; changing = refl; first = refl; last = refl; stable = refl; filled = λ s. refl; cert = λ s. refl }

-- a batch that is ready, and why
pub record Ready (n q : ℕ) (t : Table) (s : ℕ) (rs : List Request) : Type 0 where
  pub inside : in_window t s ≡ true
  pub d : DigestValue
  pub filled : (place_at t s).proposal ≡ Some d
  pub committed : backed n q d (place_at t s).commits ≡ true
  pub b : Batch
  pub known : (place_at t s).batch ≡ Some b
  pub is : rs ≡ requests_of b

pub is_ready : (n q : ℕ) (t : Table) (d : ℕ) (rs : List Request) → ready n q t d ≡ Some rs → Ready n q t (d + 1) rs
is_ready n q t s rs e = window (in_window t (s + 1)) refl e
  where
    window : (w : Bool) → in_window t (s + 1) ≡ w → cond w (committed_batch n q (place_at t (s + 1)).proposal (place_at t (s + 1))) None ≡ Some rs → Ready n q t (s + 1) rs
    window false h f = absurd (none_is_some rs f)
    window true h f = proposal (place_at t (s + 1)).proposal refl f
      where
        proposal : (o : Option DigestValue) → (place_at t (s + 1)).proposal ≡ o → committed_batch n q o (place_at t (s + 1)) ≡ Some rs → Ready n q t (s + 1) rs
        proposal None g f = absurd (none_is_some rs f)
        proposal (Some d) g f = commits (backed n q d (place_at t (s + 1)).commits) refl f
          where
            commits : (v : Bool) → backed n q d (place_at t (s + 1)).commits ≡ v → cond v (known (place_at t (s + 1)).batch) None ≡ Some rs → Ready n q t (s + 1) rs
            commits false c f = absurd (none_is_some rs f)
            commits true c f = batch (place_at t (s + 1)).batch refl f
              where
                batch : (o : Option Batch) → (place_at t (s + 1)).batch ≡ o → known o ≡ Some rs → Ready n q t (s + 1) rs
                batch None k f = absurd (none_is_some rs f)
                batch (Some b) k f = record { inside = h; d = d; filled = g; committed = c; b = b; known = k; is = sym (some_is (requests_of b) rs f) }

module _ {X : Type 0} (value : List ℕ → DigestValue) (next : X → ℕ → ℕ → ℕ → X) (marked : X → ℕ) (start : X) (n self : ℕ) (honest honest_client : ℕ → Bool)
    (Issued : Statement → Type 0) (Handed : List Request → Type 0) (AskedFor : Statement → Type 0) where
  abbrev F : Node X → Type 0
  F = Full value next start n (quorum n) self honest honest_client Issued Handed AskedFor

  abbrev D : ℕ → List Request → Type 0
  D = DeliveredOk value n (quorum n) honest Issued Handed

  -- the node after one batch, with more issued
  abbrev pushed : Node X → List Request → List Statement → Node X
  pushed k rs issued =
      let c = delivered next k.app k.core.windows rs in
      record {
        core = record { house = k.core.house; view = k.core.view; table = k.core.table; delivered = k.core.delivered + 1; windows = c.windows };
        app = c.app;
        issued = issued;
        log = k.log ++ rs ∷ [];
      }

  -- one batch more of a fold
  fold_more : (x : X) (log : List (List Request)) (rs : List Request)
      → ((delivered next x all_fresh (flat_map (λ b. b) (log ++ rs ∷ []))).app ≡ (delivered next (delivered next x all_fresh (flat_map (λ b. b) log)).app (delivered next x all_fresh (flat_map (λ b. b) log)).windows rs).app)
      × ((delivered next x all_fresh (flat_map (λ b. b) (log ++ rs ∷ []))).windows ≡ (delivered next (delivered next x all_fresh (flat_map (λ b. b) log)).app (delivered next x all_fresh (flat_map (λ b. b) log)).windows rs).windows)
  fold_more x log rs =
      let all = flat_map (λ b. b) log in
      let split = sym (flat_map_more (λ b. b) [] log rs) in
      let joins = ap (delivered next x all_fresh) split ∙ delivery_joins next x all_fresh all rs in
      (ap (λ (c : Course X). c.app) joins, ap (λ (c : Course X). c.windows) joins)

  pub push_full : (k : Node X) (rs : List Request) (issued : List Statement) → F k → D (k.core.delivered + 1) rs
      → ((a : Statement) → Has k.issued a → Has issued a) → ((a : Statement) → Has issued a → Has k.issued a ⊎ (a.kind ≡ Checkpoint)) → F (pushed k rs issued)
  push_full k rs issued full ok more only =
      let long = length-append k.log (rs ∷ []) in
      let at : k.core.delivered + 1 ≡ length k.log + 1 = ap (λ m. m + 1) full.count in
      let fold = fold_more start k.log rs in
      record {
        size = full.size;
        own = full.own;
        long = full.long;
        inv = same_inv n (quorum n) self honest Issued (sketch_of k.core) (sketch_of k.core) k.issued issued (same_sketch (sketch_of k.core)) more only full.inv;
        places = full.places;
        bare = full.bare;
        count = omega (arith, at, long);
        log = λ j l. here j (cases_eq j (length k.log)) l;
        app = (λ i. (delivered next (full.app i) (full.windows i) rs).app) ∙ sym fold.0;
        windows = (λ i. (delivered next (full.app i) (full.windows i) rs).windows) ∙ sym fold.1;
        origin = λ e s d h. old e s d (only (prepare_by self e s d) h);
      }
    where
      here : (j : ℕ) → (j ≡ length k.log) ⊎ (j ≡ length k.log → ⊥) → j < length (k.log ++ rs ∷ []) → D (j + 1) (get_or (k.log ++ rs ∷ []) j [])
      here j (inl e) l =
          let is : get_or (k.log ++ rs ∷ []) j [] ≡ rs = get_or_at k.log rs [] [] j (sym e) in
          let s : k.core.delivered + 1 ≡ j + 1 = omega (arith, full.count, e) in
          subst (D (j + 1)) (sym is) (subst (λ m. D m rs) s ok)
      here j (inr e) l =
          let before : j < length k.log = omega (arith, length-append k.log (rs ∷ []), e) in
          subst (D (j + 1)) (sym (get_or_append_left k.log (rs ∷ []) [] j before)) (full.log j before)

      old : (e s : ℕ) (d : DigestValue) → Has k.issued (prepare_by self e s d) ⊎ (Prepare ≡ Checkpoint) → Origin value n (quorum n) honest honest_client Issued Handed AskedFor e s d
      old e s d (inl h) = full.origin e s d h
      old e s d (inr h) = absurd (kinds_apart h refl)

  -- the node of a flow that began at a node
  abbrev pub flow_node : Core → Node X → Flow X → Node X
  flow_node c k f = record {
    core = record { house = c.house; view = c.view; table = c.table; delivered = f.delivered; windows = f.windows };
    app = f.app;
    issued = f.issued ++ k.issued;
    log = k.log ++ f.batches;
  }

  -- the checkpoint after a batch, every 16 numbers
  abbrev more_of : Core → Flow X → List Request → List Statement
  more_of c f rs = cond (eqb ((f.delivered + 1) % 16) 0) (checkpoint_of (own c) (f.delivered + 1) (marked (delivered next f.app f.windows rs).app) ∷ []) []

  pub one_full : (c : Core) (k : Node X) (f : Flow X) (rs : List Request) → F (flow_node c k f) → D (f.delivered + 1) rs → F (flow_node c k (deliver_one next marked (own c) f rs))
  unfolding deliver_one
  one_full c k f rs full ok =
      let more = more_of c f rs in
      let g = push_full (flow_node c k f) rs ((f.issued ++ more) ++ k.issued) full ok
      (λ a h. keep a (has_append f.issued k.issued a h))
      (λ a h. new a (has_append (f.issued ++ more) k.issued a h)) in
      subst (λ l. F (record {
        core = record { house = c.house; view = c.view; table = c.table; delivered = f.delivered + 1; windows = (delivered next f.app f.windows rs).windows };
        app = (delivered next f.app f.windows rs).app;
        issued = (f.issued ++ more) ++ k.issued;
        log = l;
      })) (append_assoc k.log f.batches (rs ∷ [])) g
    where
      keep : (a : Statement) → Has f.issued a ⊎ Has k.issued a → Has ((f.issued ++ (more_of c f rs)) ++ k.issued) a
      keep a (inl h) = has_left (f.issued ++ (more_of c f rs)) k.issued a (has_left f.issued (more_of c f rs) a h)
      keep a (inr h) = has_right (f.issued ++ (more_of c f rs)) k.issued a h

      five : (b : Bool) (m a : Statement) → m.kind ≡ Checkpoint → Has (cond b (m ∷ []) []) a → a.kind ≡ Checkpoint
      five true m a e (inl h) = sym (ap (λ (z : Statement). z.kind) h) ∙ e
      five true m a e (inr h) = absurd h
      five false m a e h = absurd h

      fresh : (a : Statement) → Has f.issued a ⊎ Has (more_of c f rs) a → Has (f.issued ++ k.issued) a ⊎ (a.kind ≡ Checkpoint)
      fresh a (inl h) = inl (has_left f.issued k.issued a h)
      fresh a (inr h) = inr (five (eqb ((f.delivered + 1) % 16) 0) _ a refl h)

      new : (a : Statement) → Has (f.issued ++ (more_of c f rs)) a ⊎ Has k.issued a → Has (f.issued ++ k.issued) a ⊎ (a.kind ≡ Checkpoint)
      new a (inl h) = fresh a (has_append f.issued (more_of c f rs) a h)
      new a (inr h) = inl (has_right f.issued k.issued a h)

  -- a ready batch was committed by a quorum
  ready_ok : (k : Node X) (rs : List Request) → F k → Ready k.core.house.n (quorum k.core.house.n) k.core.table (k.core.delivered + 1) rs → D (k.core.delivered + 1) rs
  ready_ok k rs full r =
      let t = k.core.table in
      let s = k.core.delivered + 1 in
      let filled : filled_of t s ≡ Some r.d = ap (λ w. cond w (place_at t s).proposal None) r.inside ∙ r.filled in
      let ok = full.places s r.d filled in
      let w = subst (λ m. Quorum m (quorum m) (λ i. (x : Ballot) × (get_or (place_at t s).commits.of i None ≡ Some x) × (x.digest ≡ r.d))) full.size (backed_quorum k.core.house.n (quorum k.core.house.n) r.d (place_at t s).commits r.committed) in
      record {
        epoch = ok.in_epoch;
        digest = r.d;
        quorum = record {
          «in» = w.«in»;
          enough = w.enough;
          each = λ i l h hon. let v = w.each i l h in subst (λ z. Issued (commit_by i ok.in_epoch s z)) v.2 (ok.commits i v.0 v.1 hon);
        };
        batch = subst (BatchOk value Handed r.d) (sym r.is) (ok.batch r.b r.known);
      }

  pub ready_full : (fuel : ℕ) (c : Core) (k : Node X) (f : Flow X) → F (flow_node c k f) → F (flow_node c k (deliver_ready next marked fuel c f))
  unfolding deliver_ready
  ready_full zero c k f full = full
  ready_full (suc fuel) c k f full = go (ready (size c) (enough c) c.table f.delivered) refl (ready_full fuel c k)
    where
      go : (o : Option (List Request)) → ready (size c) (enough c) c.table f.delivered ≡ o → ((g : Flow X) → F (flow_node c k g) → F (flow_node c k (deliver_ready next marked fuel c g)))
          → F (flow_node c k (onto f (λ rs. deliver_ready next marked fuel c (deliver_one next marked (own c) f rs)) o))
      go None e ih = full
      go (Some rs) e ih =
          ih (deliver_one next marked (own c) f rs) (one_full c k f rs full (ready_ok (flow_node c k f) rs full (is_ready (size c) (enough c) c.table f.delivered rs e)))
