-- Deliveries, one after another.
use Rattle.std.proofs.Common.{◌≡◌, ℕ, zero, suc, ◌+◌, ◌-◌, ◌%◌, ◌<◌, ◌≤◌, Bool, true, false, cond, eqb, ltb, List, [], ◌∷◌, ◌++◌, map, length, Some, None, Option, sym, refl, ap, ◌∙◌, subst, append_assoc, append-nil, arith}
use Rattle.std.proofs.lemmas.List.{length-append, map-append}
use Rattle.std.proofs.lemmas.Bool.{and_parts, ltb-true, leb-true}
use Rattle.wire.specs.declared.records.Request.{Request}
use Rattle.wire.specs.declared.records.Batch.{Batch}
use Rattle.wire.specs.Frames.{requests_of}
use Rattle.table.specs.declared.records.Table.{Table}
use Rattle.table.specs.Window.{in_window, place_at}
use Rattle.window.specs.declared.windows.Windows.{Windows}
use Rattle.window.specs.Deliveries.{Course, delivered}
use Rattle.window.proofs.Joining.{delivers}
use Rattle.protocol.specs.declared.records.Core.{Core}
use Rattle.controller.specs.declared.progress.Progress.{Progress}
use Rattle.protocol.specs.State.{size, own, enough}
use Rattle.protocol.specs.Call.{unsealed}
use Rattle.protocol.specs.Delivery.{Flow, ready, committed_batch, checkpoint_of, onto, deliver_one, deliver_ready, begin}
use Rattle.controller.specs.declared.post.Post.{Post}
use Rattle.controller.specs.Sending.{Sent}
use Rattle.controller.specs.Agree.{due, core_after, progress_after, Reached}
use Rattle.controller.proofs.Posts.{sent_none, sent_more}

-- a number that is ready has a place
pub ready_placed : (n q : ℕ) (t : Table) (d : ℕ) (rs : List Request) → ready n q t d ≡ Some rs → (t.stable ≤ d) × (d + 1 ≤ t.stable + 32)
ready_placed n q t d rs e =
    let placed = and_parts (ltb t.stable (d + 1)) _ (go (in_window t (d + 1)) (committed_batch n q (place_at t (d + 1)).proposal (place_at t (d + 1))) e) in
    (omega (arith, ltb-true t.stable (d + 1) placed.0), leb-true (d + 1) (t.stable + 32) placed.1)
  where
    go : (b : Bool) (o : Option (List Request)) → cond b o None ≡ Some rs → b ≡ true
    go true o h = refl
    go false o h = let z : ◌≡◌ {A = ℕ} 0 1 = cc in absurd (omega arith)

module _ {X : Type 0} (next : X → ℕ → ℕ → ℕ → X) (marked : X → ℕ) where
  module _ (c : Core) (x : X) (rs : List Request) (w : Windows) (x' : X) (applied passed : ℕ)
      (e : ◌≡◌ {A = Course X} (record { app = x'; windows = w; applied = applied; passed = passed }) (delivered next x c.windows rs)) where
    -- how many requests one batch applies and passes over
    pub one_few : length rs ≤ 16 → (applied ≤ 16) × (passed ≤ 16)
    one_few h =
        let a = ap (λ (s : Course X). s.applied) e in
        let b = ap (λ (s : Course X). s.passed) e in
        let n = (delivers next x c.windows rs).counted in
        (omega arith, omega arith)

    pub one_reached : (post post' : Post) (p : Progress) (m : ℕ) → m ≡ marked x' → Sent post post' (map unsealed (due (own c) (c.delivered + 1) m))
        → Reached c post p (deliver_one next marked (own c) (begin next marked c x []) rs)
        (record { house = c.house; view = c.view; table = c.table; delivered = c.delivered + 1; windows = w }) x' post'
        (record { batches = p.batches + 1; applied = p.applied + applied; passed = p.passed + passed })
    unfolding deliver_one
    one_reached post post' p m hm hs =
        let d = delivered next x c.windows rs in
        let mark : m ≡ marked d.app = hm ∙ ap (λ (s : Course X). marked s.app) e in
        let a : p.applied + applied ≡ p.applied + (0 + d.applied) = omega (arith, ap (λ (s : Course X). s.applied) e) in
        let b : p.passed + passed ≡ p.passed + (0 + d.passed) = omega (arith, ap (λ (s : Course X). s.passed) e) in
        record {
          core = λ i. record { house = c.house; view = c.view; table = c.table; delivered = c.delivered + 1; windows = (e i).windows };
          app = ap (λ (s : Course X). s.app) e;
          out = subst (λ n. Sent post post' (map unsealed (due (own c) (c.delivered + 1) n))) mark hs;
          progress = λ i. record { batches = p.batches + 1; applied = a i; passed = b i };
        }

  -- a delivery that goes on where another stopped
  abbrev pub frame : Flow X → Flow X → Flow X
  frame f g = record {
    delivered = g.delivered;
    windows = g.windows;
    app = g.app;
    issued = f.issued ++ g.issued;
    batches = f.batches ++ g.batches;
    applied = f.applied + g.applied;
    passed = f.passed + g.passed;
  }

  one_framed : (signer : ℕ) (f g : Flow X) (rs : List Request) → deliver_one next marked signer (frame f g) rs ≡ frame f (deliver_one next marked signer g rs)
  unfolding deliver_one
  one_framed signer f g rs =
      let d = delivered next g.app g.windows rs in
      let number = g.delivered + 1 in
      let a : f.applied + g.applied + d.applied ≡ f.applied + (g.applied + d.applied) = omega arith in
      let b : f.passed + g.passed + d.passed ≡ f.passed + (g.passed + d.passed) = omega arith in
      λ i. record {
        delivered = number;
        windows = d.windows;
        app = d.app;
        issued = append_assoc f.issued g.issued (cond (eqb (number % 16) 0) (checkpoint_of signer number (marked d.app) ∷ []) []) i;
        batches = append_assoc f.batches g.batches (rs ∷ []) i;
        applied = a i;
        passed = b i;
      }

  ready_framed : (k : ℕ) (c : Core) (f g : Flow X) → deliver_ready next marked k c (frame f g) ≡ frame f (deliver_ready next marked k c g)
  unfolding deliver_ready
  ready_framed zero c f g = refl
  ready_framed (suc k) c f g = go (ready (size c) (enough c) c.table g.delivered) (ready_framed k c f)
    where
      go : (o : Option (List Request)) → ((h : Flow X) → deliver_ready next marked k c (frame f h) ≡ frame f (deliver_ready next marked k c h))
          → onto (frame f g) (λ rs. deliver_ready next marked k c (deliver_one next marked (own c) (frame f g) rs)) o
          ≡ frame f (onto g (λ rs. deliver_ready next marked k c (deliver_one next marked (own c) g rs)) o)
      go None ih = refl
      go (Some rs) ih = ap (deliver_ready next marked k c) (one_framed (own c) f g rs) ∙ ih (deliver_one next marked (own c) g rs)

  -- only house and table decide
  same_core : (k : ℕ) (c : Core) (h f : Flow X) → deliver_ready next marked k (core_after c h) f ≡ deliver_ready next marked k c f
  unfolding deliver_ready
  same_core zero c h f = refl
  same_core (suc k) c h f = go (ready (size c) (enough c) c.table f.delivered) (same_core k c h)
    where
      go : (o : Option (List Request)) → ((g : Flow X) → deliver_ready next marked k (core_after c h) g ≡ deliver_ready next marked k c g)
          → onto f (λ rs. deliver_ready next marked k (core_after c h) (deliver_one next marked (own c) f rs)) o
          ≡ onto f (λ rs. deliver_ready next marked k c (deliver_one next marked (own c) f rs)) o
      go None ih = refl
      go (Some rs) ih = ih (deliver_one next marked (own c) f rs)

  ready_stops : (n : ℕ) (c : Core) (f : Flow X) → ready (size c) (enough c) c.table f.delivered ≡ None → deliver_ready next marked n c f ≡ f
  unfolding deliver_ready
  ready_stops zero c f e = refl
  ready_stops (suc n) c f e = ap (onto f (λ rs. deliver_ready next marked n c (deliver_one next marked (own c) f rs))) e

  ready_joins : (m n : ℕ) (c : Core) (f : Flow X) → deliver_ready next marked (m + n) c f ≡ deliver_ready next marked n c (deliver_ready next marked m c f)
  unfolding deliver_ready
  ready_joins zero n c f = let e : zero + n ≡ n = omega arith in ap (λ k. deliver_ready next marked k c f) e
  ready_joins (suc m) n c f =
      let e : suc m + n ≡ suc (m + n) = omega arith in
      ap (λ k. deliver_ready next marked k c f) e ∙ go (ready (size c) (enough c) c.table f.delivered) refl (ready_joins m n c)
    where
      go : (o : Option (List Request)) → ready (size c) (enough c) c.table f.delivered ≡ o
          → ((g : Flow X) → deliver_ready next marked (m + n) c g ≡ deliver_ready next marked n c (deliver_ready next marked m c g))
          → onto f (λ rs. deliver_ready next marked (m + n) c (deliver_one next marked (own c) f rs)) o
          ≡ deliver_ready next marked n c (onto f (λ rs. deliver_ready next marked m c (deliver_one next marked (own c) f rs)) o)
      go None e ih = sym (ready_stops n c f e)
      go (Some rs) e ih = ih (deliver_one next marked (own c) f rs)

  ready_one : (c : Core) (g : Flow X) (rs : List Request) → ready (size c) (enough c) c.table g.delivered ≡ Some rs → deliver_ready next marked 1 c g ≡ deliver_one next marked (own c) g rs
  unfolding deliver_ready
  ready_one c g rs e = ap (onto g (λ rs. deliver_ready next marked 0 c (deliver_one next marked (own c) g rs))) e

  pub ready_begins : (c : Core) (f : Flow X) → deliver_ready next marked 0 c f ≡ f
  unfolding deliver_ready
  ready_begins c f = refl

  -- one batch more, or none
  pub ready_more : (k : ℕ) (c : Core) (f : Flow X) (rs : List Request) → ready (size c) (enough c) c.table (deliver_ready next marked k c f).delivered ≡ Some rs
      → deliver_ready next marked (k + 1) c f ≡ deliver_one next marked (own c) (deliver_ready next marked k c f) rs
  ready_more k c f rs e = ready_joins k 1 c f ∙ ready_one c (deliver_ready next marked k c f) rs e

  pub ready_ends : (k : ℕ) (c : Core) (f : Flow X) → k ≤ 32 → ready (size c) (enough c) c.table (deliver_ready next marked k c f).delivered ≡ None
      → deliver_ready next marked k c f ≡ deliver_ready next marked 32 c f
  ready_ends k c f h e =
      let n : 32 ≡ k + (32 - k) = omega arith in
      sym (ap (λ j. deliver_ready next marked j c f) n ∙ (ready_joins k (32 - k) c f ∙ ready_stops (32 - k) c (deliver_ready next marked k c f) e))

  begun : (c : Core) (f : Flow X) → frame f (begin next marked (core_after c f) f.app []) ≡ f
  begun c f =
      let a : f.applied + 0 ≡ f.applied = omega arith in
      let b : f.passed + 0 ≡ f.passed = omega arith in
      λ i. record { delivered = f.delivered; windows = f.windows; app = f.app; issued = append-nil f.issued i; batches = append-nil f.batches i; applied = a i; passed = b i }

  module _ (c : Core) (box : Post) (p : Progress) (f : Flow X) (c' : Core) (x' : X) (box' : Post) (p' : Progress) (was : Reached c box p f c' x' box' p')
      (room : box'.sent ≤ length box.outbox.now) where
    then_reached : (g : Flow X) (c'' : Core) (x'' : X) (box'' : Post) (p'' : Progress) → Reached c' box' p' g c'' x'' box'' p'' → Reached c box p (frame f g) c'' x'' box'' p''
    then_reached g c'' x'' box'' p'' is =
        let batches : p.batches + length f.batches + length g.batches ≡ p.batches + length (f.batches ++ g.batches) = omega (arith, length-append f.batches g.batches) in
        let applied : p.applied + f.applied + g.applied ≡ p.applied + (f.applied + g.applied) = omega arith in
        let passed : p.passed + f.passed + g.passed ≡ p.passed + (f.passed + g.passed) = omega arith in
        record {
          core = is.core ∙ ap (λ k. core_after k g) was.core;
          app = is.app;
          out = sent_more box box' box'' (map unsealed f.issued) (map unsealed g.issued) (map unsealed (f.issued ++ g.issued)) (map-append unsealed f.issued g.issued)
              (omega (arith, was.out.sent)) was.out is.out;
          progress = is.progress ∙ (ap (λ q. progress_after q g) was.progress ∙ (λ i. record { batches = batches i; applied = applied i; passed = passed i }));
        }

    -- one batch more
    pub one_on : (rs : List Request) (c'' : Core) (x'' : X) (box'' : Post) (p'' : Progress)
        → Reached c' box' p' (deliver_one next marked (own c') (begin next marked c' x' []) rs) c'' x'' box'' p''
        → Reached c box p (deliver_one next marked (own c) f rs) c'' x'' box'' p''
    one_on rs c'' x'' box'' p'' is =
        let same : frame f (deliver_one next marked (own c') (begin next marked c' x' []) rs) ≡ deliver_one next marked (own c) f rs =
        (λ i. frame f (deliver_one next marked (own (was.core i)) (begin next marked (was.core i) (was.app i) []) rs))
        ∙ (sym (one_framed (own c) f (begin next marked (core_after c f) f.app []) rs)
        ∙ ap (λ h. deliver_one next marked (own c) h rs) (begun c f)) in
        subst (λ h. Reached c box p h c'' x'' box'' p'') same (then_reached (deliver_one next marked (own c') (begin next marked c' x' []) rs) c'' x'' box'' p'' is)

    -- all that is ready
    pub goes_on : (c'' : Core) (x'' : X) (box'' : Post) (p'' : Progress)
        → Reached c' box' p' (deliver_ready next marked 32 c' (begin next marked c' x' [])) c'' x'' box'' p''
        → Reached c box p (deliver_ready next marked 32 c f) c'' x'' box'' p''
    goes_on c'' x'' box'' p'' is =
        let start = begin next marked (core_after c f) f.app [] in
        let same : frame f (deliver_ready next marked 32 c' (begin next marked c' x' [])) ≡ deliver_ready next marked 32 c f =
        (λ i. frame f (deliver_ready next marked 32 (was.core i) (begin next marked (was.core i) (was.app i) [])))
        ∙ (ap (frame f) (same_core 32 c f start)
        ∙ (sym (ready_framed 32 c f start)
        ∙ ap (deliver_ready next marked 32 c) (begun c f))) in
        subst (λ h. Reached c box p h c'' x'' box'' p'') same (then_reached (deliver_ready next marked 32 c' (begin next marked c' x' [])) c'' x'' box'' p'' is)

    -- what is ready after so much
    pub ready_there : ready (size c') (enough c') c'.table c'.delivered ≡ ready (size c) (enough c) c.table f.delivered
    ready_there = ap (λ (k : Core). ready (size k) (enough k) k.table k.delivered) was.core

  pub one_number : (signer : ℕ) (f : Flow X) (rs : List Request) → (deliver_one next marked signer f rs).delivered ≡ f.delivered + 1
  unfolding deliver_one
  one_number signer f rs = refl

  -- nothing delivered yet
  pub start_reached : (c : Core) (x : X) (box : Post) (p : Progress) → Reached c box p (begin next marked c x []) c x box p
  start_reached c x box p =
      let batches : p.batches ≡ p.batches + 0 = omega arith in
      let applied : p.applied ≡ p.applied + 0 = omega arith in
      let passed : p.passed ≡ p.passed + 0 = omega arith in
      record { core = refl; app = refl; out = sent_none box; progress = λ i. record { batches = batches i; applied = applied i; passed = passed i } }

  module _ (c : Core) (x : X) (box : Post) (p : Progress) where
    abbrev so_many : ℕ → Flow X
    so_many k = deliver_ready next marked k c (begin next marked c x [])

    pub none_on : Reached c box p (so_many 0) c x box p
    none_on = subst (λ h. Reached c box p h c x box p) (sym (ready_begins c (begin next marked c x []))) (start_reached c x box p)

    module _ (k : ℕ) (c' : Core) (x' : X) (box' : Post) (p' : Progress) (was : Reached c box p (so_many k) c' x' box' p') (room : box'.sent ≤ length box.outbox.now) where
      pub more_on : (b : Batch) (c'' : Core) (x'' : X) (box'' : Post) (p'' : Progress)
          → Some (requests_of b) ≡ ready (size c') (enough c') c'.table c'.delivered
          → Reached c' box' p' (deliver_one next marked (own c') (begin next marked c' x' []) (requests_of b)) c'' x'' box'' p''
          → Reached c box p (so_many (k + 1)) c'' x'' box'' p''
      more_on b c'' x'' box'' p'' is step =
          let rs = requests_of b in
          let there = ready_there c box p (so_many k) c' x' box' p' was room in
          let e : ready (size c) (enough c) c.table (so_many k).delivered ≡ Some rs = sym there ∙ sym is in
          subst (λ h. Reached c box p h c'' x'' box'' p'') (sym (ready_more k c (begin next marked c x []) rs e))
          (one_on c box p (so_many k) c' x' box' p' was room rs c'' x'' box'' p'' step)

      pub ends_on : k ≤ 32 → None ≡ ready (size c') (enough c') c'.table c'.delivered → Reached c box p (so_many 32) c' x' box' p'
      ends_on h is =
          let there = ready_there c box p (so_many k) c' x' box' p' was room in
          subst (λ h. Reached c box p h c' x' box' p') (ready_ends k c (begin next marked c x []) h (sym there ∙ sym is)) was

      -- a number that is ready has a place
      pub next_placed : (b : Batch) → Some (requests_of b) ≡ ready (size c') (enough c') c'.table c'.delivered
          → (c'.table.stable ≡ c.table.stable) × (c.table.stable ≤ c'.delivered) × (c'.delivered + 1 ≤ c.table.stable + 32)
      next_placed b is =
          let placed = ready_placed (size c') (enough c') c'.table c'.delivered (requests_of b) (sym is) in
          let stable : c'.table.stable ≡ c.table.stable = ap (λ (n : Core). n.table.stable) was.core in
          (stable, omega (arith, stable, placed.0), omega (arith, stable, placed.1))

  -- one batch raises the number by one
  pub one_higher : (c : Core) (x : X) (rs : List Request) (box : Post) (p : Progress) (c' : Core) (x' : X) (box' : Post) (p' : Progress)
      → Reached c box p (deliver_one next marked (own c) (begin next marked c x []) rs) c' x' box' p' → (c'.delivered ≡ c.delivered + 1) × (c'.table.stable ≡ c.table.stable)
  one_higher c x rs box p c' x' box' p' is =
      (ap (λ (n : Core). n.delivered) is.core ∙ one_number (own c) (begin next marked c x []) rs, ap (λ (n : Core). n.table.stable) is.core)

-- where the numbers from d₀ to d are delivered and d + 1 has a place, so had the first of them, and they are fewer than 32
pub still_placed : (d₀ d stable : ℕ) → d₀ ≤ d → (0 < d - d₀ → stable ≤ d₀) → stable ≤ d → d + 1 ≤ stable + 32 → (stable ≤ d₀) × (d - d₀ + 1 ≤ 32)
still_placed d₀ d stable up first low high = let from = go (d - d₀) refl in (from, omega arith)
  where
    go : (n : ℕ) → d - d₀ ≡ n → stable ≤ d₀
    go zero e = omega arith
    go (suc n) e = first (omega (arith, e))
