-- There is one log.
use Rattle.std.proofs.Common.{◌≡◌, ℕ, suc, ◌+◌, ◌<◌, ◌≤◌, Bool, true, not, ◌⊎◌, List, [], ◌∷◌, ◌++◌, length, get_or, sym, refl, ap, ◌∙◌, subst, inl, inr, ⊎_elim, arith}
use Rattle.std.specs.List.{flat_map, AllByRecursion}
use Rattle.std.proofs.lemmas.List.{ext_get_or}
use Rattle.std.proofs.lemmas.Bool.{false≢true}
use Rattle.wire.specs.declared.records.DigestValue.{DigestValue}
use Rattle.wire.specs.declared.records.Statement.{Statement}
use Rattle.wire.specs.declared.records.Request.{Request}
use Rattle.wire.specs.Values.{value_of, request_statement}
use Rattle.digest.specs.Batched.{batch_digest}
use Rattle.quorum.specs.declared.house.House.{House}
use Rattle.quorum.specs.Sizes.{allowed, faults, quorum}
use Rattle.quorum.specs.Sets.{count, Trusty}
use Rattle.quorum.proofs.Counting.{trusty}
use Rattle.window.specs.Clients.{all_fresh}
use Rattle.window.specs.Deliveries.{delivered}
use Rattle.window.specs.Histories.{served, Stands}
use Rattle.window.proofs.Serving.{served_once, served_stands, fresh_full}
use Rattle.house.specs.Runs
use Rattle.house.specs.Law.{OneLog, OneLogHolds}
use Rattle.house.proofs.Tables.{sketch_of}
use Rattle.house.proofs.Global.{Locals, one_digest, offered}
use Rattle.house.proofs.Full.{DeliveredOk, OfferedOk, Full}
use Rattle.house.proofs.Whole.{AskedBefore, handed_more, issued_more, local_full, counted}
use Rattle.wire.specs.Kinds.{of_controllers}

-- a request of a delivered list stands in one of its batches
in_some : (r : Request) (bs : List (List Request)) → Stands r (flat_map (λ b. b) bs) → (j : ℕ) × (j < length bs) × Stands r (get_or bs j [])
in_some r [] h = absurd h
in_some r (b ∷ bs) h = go (split b h) (in_some r bs)
  where
    split : (xs : List Request) → Stands r (xs ++ flat_map (λ b. b) bs) → Stands r xs ⊎ Stands r (flat_map (λ b. b) bs)
    split [] h = inr h
    split (x ∷ xs) (inl h) = inl (inl h)
    split (x ∷ xs) (inr h) = ⊎_elim (λ z. inl (inr z)) inr (split xs h)

    go : Stands r b ⊎ Stands r (flat_map (λ b. b) bs) → (Stands r (flat_map (λ b. b) bs) → (j : ℕ) × (j < length bs) × Stands r (get_or bs j []))
        → (j : ℕ) × (j < length (b ∷ bs)) × Stands r (get_or (b ∷ bs) j [])
    go (inl h) ih = (0, omega arith, h)
    go (inr h) ih = let w = ih h in (suc w.0, omega (arith, w.1), w.2)

all_stands : (P : Request → Type 0) (rs : List Request) (r : Request) → AllByRecursion P rs → Stands r rs → P r
all_stands P [] r a h = absurd h
all_stands P (x ∷ xs) r a (inl h) = subst P h a.0
all_stands P (x ∷ xs) r a (inr h) = all_stands P xs r a.1 h

as_stands : (rs : List Request) (r : Request) → Runs.Has rs r → Stands r rs
as_stands [] r h = absurd h
as_stands (x ∷ xs) r (inl h) = inl h
as_stands (x ∷ xs) r (inr h) = inr (as_stands xs r h)

module _ {X : Type 0} (value : List ℕ → DigestValue) (next : X → ℕ → ℕ → ℕ → X) (marked : X → ℕ) (start : X) (n : ℕ) (Size-ok : allowed n ≡ true)
    (honest honest_client : ℕ → Bool) (few : count (λ i. not (honest i)) n ≤ faults n) (houses : ℕ → House)
    (members : (k : ℕ) → honest k ≡ true → ((houses k).n ≡ n) × ((houses k).own ≡ k)) where
  abbrev node : ℕ → List Runs.Event → Runs.Node X
  node = Runs.node value next marked start houses

  abbrev Seals : List Runs.Event → Type 0
  Seals = Runs.SealsHold value next marked start houses honest honest_client

  -- the premises hold at every moment, and what was issued or handed in then is so in the end
  seals_older : (e : Runs.Event) (older : List Runs.Event) → Seals (e ∷ older) → Seals older
  seals_older (Runs.at k outbox c) older h = h.1
  seals_older (Runs.asks client timestamp payload) older h = h

  seals_then : (m run : List Runs.Event) → Runs.Moment m run → Seals run → Seals m
  seals_then m [] e h = subst Seals (sym e) h
  seals_then m (e ∷ older) (inl f) h = subst Seals (sym f) h
  seals_then m (e ∷ older) (inr f) h = seals_then m older f (seals_older e older h)

  issued_then : (k : ℕ) (a : Statement) (m run : List Runs.Event) → Runs.Moment m run → Runs.Has (node k m).issued a → Runs.Has (node k run).issued a
  issued_then k a m [] e h = subst (λ z. Runs.Has (node k z).issued a) e h
  issued_then k a m (e ∷ older) (inl f) h = subst (λ z. Runs.Has (node k z).issued a) f h
  issued_then k a m (e ∷ older) (inr f) h = issued_more value next marked start houses k e older a (issued_then k a m older f h)

  handed_then : (rs : List Request) (m run : List Runs.Event) → Runs.Moment m run → Runs.Handed honest m rs → Runs.Handed honest run rs
  handed_then rs m [] e h = subst (λ z. Runs.Handed honest z rs) e h
  handed_then rs m (e ∷ older) (inl f) h = subst (λ z. Runs.Handed honest z rs) f h
  handed_then rs m (e ∷ older) (inr f) h = handed_more honest e older rs (handed_then rs m older f h)

  now : (run : List Runs.Event) → Runs.Moment run run
  now [] = refl
  now (e ∷ older) = inl refl

  -- one run, in which AskedFor holds of what was asked for before its last event
  module _ (run : List Runs.Event) (seals : Seals run) (AskedFor : Statement → Type 0) (ask : (st : Statement) → AskedBefore run st → AskedFor st) where
    abbrev Issued : Statement → Type 0
    Issued a = of_controllers a.kind ≡ true → Runs.Has (node a.signer run).issued a

    abbrev F : ℕ → Runs.Node X → Type 0
    F k = Full value next start n (quorum n) k honest honest_client Issued (Runs.Handed honest run) AskedFor

    full_now : (k : ℕ) → honest k ≡ true → F k (node k run)
    full_now k hon =
        local_full value next marked start houses n honest honest_client members Issued (Runs.Handed honest run) AskedFor (λ a e v. absurd (false≢true (sym e ∙ v)))
        k hon run seals (λ a h _. h) (λ rs h. h) ask

    locals : Locals n (quorum n) honest Issued
    locals = record {
      sketch = λ k. sketch_of (node k run).core;
      issued = λ k. (node k run).issued;
      inv = λ k hon. (full_now k hon).inv;
      own = λ a hon v h. h v;
    }

    abbrev D : ℕ → List Request → Type 0
    D = DeliveredOk value n (quorum n) honest Issued (Runs.Handed honest run)

    house : Trusty n (faults n) (quorum n) honest
    house = trusty n honest Size-ok few

    -- two batches that were delivered at one number are one
    one_batch : Runs.DigestsDiffer value honest run → (s : ℕ) (a b : List Request) → D s a → D s b → a ≡ b
    one_batch differ s a b x y =
        same x.batch.got y.batch.got (x.batch.digest ∙ (one_digest n (faults n) (quorum n) honest house Issued locals s x.epoch x.digest y.epoch y.digest x.quorum y.quorum ∙ sym y.batch.digest))
      where
        same : (a ≡ []) ⊎ (Runs.Handed honest run a × (length a ≤ 16) × (x.digest ≡ value_of 0 → ⊥)) → (b ≡ []) ⊎ (Runs.Handed honest run b × (length b ≤ 16) × (y.digest ≡ value_of 0 → ⊥)) → batch_digest value a ≡ batch_digest value b → a ≡ b
        same (inl e) (inl f) h = e ∙ sym f
        same (inl e) (inr f) h = absurd (f.2 (sym y.batch.digest ∙ (sym h ∙ ap (batch_digest value) e)))
        same (inr e) (inl f) h = absurd (e.2 (sym x.batch.digest ∙ (h ∙ ap (batch_digest value) f)))
        same (inr e) (inr f) h = differ a b e.0 f.0 e.1 f.1 h

    -- a delivered request of an honest client was asked for
    asked_for : Runs.DigestsDiffer value honest run → (s : ℕ) (rs : List Request) (r : Request) → D s rs → Stands r rs → honest_client r.client ≡ true → AskedFor (request_statement r)
    unfolding locals
    asked_for differ s rs r x st hon =
        from (offered n (faults n) (quorum n) honest house Issued locals (OfferedOk value honest_client (Runs.Handed honest run) AskedFor) (value_of 0) (λ k e s d h p. (full_now k h).origin e s d p) x.epoch s x.digest x.quorum) x.batch.got
      where
        from : OfferedOk value honest_client (Runs.Handed honest run) AskedFor x.digest ⊎ (x.digest ≡ value_of 0) → (rs ≡ []) ⊎ (Runs.Handed honest run rs × (length rs ≤ 16) × (x.digest ≡ value_of 0 → ⊥)) → AskedFor (request_statement r)
        from o (inl e) = absurd (subst (Stands r) e st)
        from (inr z) (inr g) = absurd (g.2 z)
        from (inl o) (inr g) =
            let same = differ o.rs rs o.handed g.0 o.few g.1 (o.digest ∙ sym x.batch.digest) in
            all_stands (λ q. honest_client q.client ≡ true → AskedFor (request_statement q)) rs r (subst (AllByRecursion (λ q. honest_client q.client ≡ true → AskedFor (request_statement q))) same o.asked) st hon

  -- at any moment of the run
  module _ (run : List Runs.Event) (seals : Seals run) (differ : Runs.DigestsDiffer value honest run) where
    abbrev Nothing : Statement → Type 0
    Nothing st = Unit {0}

    abbrev Said : Statement → Type 0
    Said a = of_controllers a.kind ≡ true → Runs.Has (node a.signer run).issued a

    full_then : (k : ℕ) (m : List Runs.Event) → Runs.Moment m run → honest k ≡ true → Full value next start n (quorum n) k honest honest_client Said (Runs.Handed honest run) Nothing (node k m)
    full_then k m at hon =
        local_full value next marked start houses n honest honest_client members Said (Runs.Handed honest run) Nothing (λ a e v. absurd (false≢true (sym e ∙ v)))
        k hon m (seals_then m run at seals) (λ a h _. issued_then a.signer a m run at h) (λ rs h. handed_then rs m run at h) (λ st h. tt)

    same_at : (k l s : ℕ) (m o : List Runs.Event) → Runs.Moment m run → Runs.Moment o run → honest k ≡ true → honest l ≡ true
        → s < length (node k m).log → s < length (node l o).log → get_or (node k m).log s [] ≡ get_or (node l o).log s []
    same_at k l s m o at bt hon hon' lt lt' =
        one_batch run seals Nothing (λ st h. tt) differ (s + 1) _ _ ((full_then k m at hon).log s lt) ((full_then l o bt hon').log s lt')

    size_of : (k : ℕ) (m : List Runs.Event) → length (node k m).log ≡ Runs.delivered_upto value next marked start houses k m
    size_of k m = counted value next marked start houses k m

    same_log : (k l : ℕ) (m o : List Runs.Event) → Runs.Moment m run → Runs.Moment o run → honest k ≡ true → honest l ≡ true
        → Runs.delivered_upto value next marked start houses k m ≡ Runs.delivered_upto value next marked start houses l o → (node k m).log ≡ (node l o).log
    same_log k l m o at bt hon hon' e =
        let long : length (node k m).log ≡ length (node l o).log = size_of k m ∙ (e ∙ sym (size_of l o)) in
        ext_get_or [] (node k m).log (node l o).log long (λ s lt. same_at k l s m o at bt hon hon' lt (omega (arith, lt, long)))

    differ_then : (m : List Runs.Event) → Runs.Moment m run → Runs.DigestsDiffer value honest m
    differ_then m at a b h h' = differ a b (handed_then a m run at h) (handed_then b m run at h')

    pub one_log : OneLog value next marked start houses honest honest_client run
    one_log = record {
      counted = λ k m at hon. size_of k m;
      same_batch = λ k l s m o at bt hon hon' lt lt'. same_at k l s m o at bt hon hon' (omega (arith, lt, size_of k m)) (omega (arith, lt', size_of l o));
      same_windows = λ k l m o at bt hon hon' e.
          (full_then k m at hon).windows ∙ (ap (λ z. (delivered next start all_fresh (flat_map (λ rs. rs) z)).windows) (same_log k l m o at bt hon hon' e) ∙ sym (full_then l o bt hon').windows);
      same_state = λ k l m o at bt hon hon' e.
          (full_then k m at hon).app ∙ (ap (λ z. (delivered next start all_fresh (flat_map (λ rs. rs) z)).app) (same_log k l m o at bt hon hon' e) ∙ sym (full_then l o bt hon').app);
      once = λ k m at hon. served_once all_fresh (flat_map (λ rs. rs) (node k m).log) fresh_full;
      issued_earlier = λ k e older r at hon client h.
          let m = e ∷ older in
          let stands = served_stands all_fresh (flat_map (λ rs. rs) (node k m).log) r (as_stands (served all_fresh (flat_map (λ rs. rs) (node k m).log)) r h) in
          let w = in_some r (node k m).log stands in
          asked_for m (seals_then m run at seals) (Runs.Asked older) (λ st z. z) (differ_then m at) (w.0 + 1) (get_or (node k m).log w.0 []) r
          ((full_now m (seals_then m run at seals) (Runs.Asked older) (λ st z. z) k hon).log w.0 w.1) w.2 client;
    }

pub one_log_holds : {X : Type 0} (value : List ℕ → DigestValue) (next : X → ℕ → ℕ → ℕ → X) (marked : X → ℕ) (start : X) → OneLogHolds value next marked start
one_log_holds value next marked start n ok honest honest_client few houses members run seals differ = one_log value next marked start n ok honest honest_client few houses members run seals differ
