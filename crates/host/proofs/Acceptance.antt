-- The walk over the dossier of true partings, part by part.
use Rattle.std.proofs.Common.{◌≡◌, ℕ, zero, suc, ◌+◌, ◌-◌, ◌<◌, ◌≤◌, Bool, true, false, cond, not, ◌&&◌, eqb, ltb, List, [], ◌∷◌, ◌++◌, map, length, get_or, take, drop, Some, None, Ok, Err, fold, Result, sym, refl, ap, ◌∙◌, subst, inl, inr, append_assoc, arith, length-append}
use Rattle.std.specs.List.{range_with_len, flat_map, AllByRecursion}
use Rattle.std.proofs.lemmas.List.{append-nil, get_or_at, drop_at, take_at, get_or-drop}
use Rattle.std.proofs.ByRecursion.{All-weaker}
use Rattle.std.proofs.lemmas.Bool.{cases_lt, cases_eq, cond-true, cond-false, and_from, and_left, and_right, not_from_true, not_from_false, lt-ltb, le-ltb, le-leb, lt-leb, eq-eqb, ne_eqb}
use Rattle.wire.specs.Values.{value_of, same_digest}
use Rattle.wire.specs.declared.records.DigestValue.{DigestValue}
use Rattle.wire.specs.declared.records.Statement.{Statement}
use Rattle.wire.specs.declared.records.Sealed.{Sealed}
use Rattle.seal.specs.Records.{none, signer_of}
use Rattle.seal.proofs.Sameness.{same_digest_self}
use Rattle.group.specs.Group.{grouped, stands, exactly}
use Rattle.dossier.specs.declared.parts.Terms.{Terms}
use Rattle.dossier.specs.declared.parts.Claim.{Claim}
use Rattle.dossier.specs.declared.parts.Opened.{Opened}
use Rattle.dossier.specs.declared.tally.Tally.{Tally}
use Rattle.dossier.specs.declared.tally.Found.{Found}
use Rattle.dossier.specs.Walk.{onward, or_fault, largest, mark_at, last_asked, blank, tallied, held_fits, stable_fits, quorum_from, held_one, helds_from, found, numbers, checkpoints, after_stables, walked}
use Rattle.dossier.proofs.Passage.{went}
use Rattle.dossier.proofs.Steps.{stables_enough}
use Rattle.host.specs.Partings.{one_at, first_of, stable_in, held_in, claim_in, claimed_epoch, checkpoints_in, prepares_in, higher, highest}
use Rattle.host.specs.Assembly.{base_in, at_number, at_numbers, assembled}
use Rattle.host.specs.Laws.{Quorum, Claims, TrueParting, AssemblyAccepted}
use Rattle.host.proofs.Highest.{highest_keeps, highest_or_none, highest_above, head_of, largest_is, heads_are, held_none, held_one_of, held_of_none}
use Rattle.wire.specs.declared.kinds.Kind.TheVariants.{Prepare, Checkpoint}

-- a group that stands alone stands wherever it begins, whatever follows it
pub grouped_on : {X : Type 0} (names : X → ℕ) (allows : X → Bool) (n place z place' least : ℕ) (xs ys : List X)
    → grouped names allows n (length xs) place least xs ≡ Ok z → grouped names allows n (length xs) place' least (xs ++ ys) ≡ Ok (place' + length xs)
unfolding grouped
grouped_on names allows n place z place' least [] ys e = ap Ok (omega arith)
grouped_on names allows n place z place' least (x ∷ xs) ys e =
    elim (went (stands names allows n least x) _ _ _ e) [
      | inl w ↦ cond-true _ _ _ w.0 ∙ grouped_on names allows n (place + 1) z (place' + 1) (names x + 1) xs ys w.1 ∙ ap Ok (omega arith)
      | inr w ↦ absurd cc
    ]

-- the same, where the first record sets the digest
pub grouped_marked : (allows : DigestValue → Sealed → Bool) (n k z place : ℕ) (xs ys : List Sealed) → length xs ≡ k
    → grouped signer_of (allows (first_of xs).digest) n k 0 0 xs ≡ Ok z
    → grouped signer_of (allows (first_of (xs ++ ys)).digest) n k place 0 (xs ++ ys) ≡ Ok (place + k)
unfolding grouped
grouped_marked allows n k z place [] ys long e =
    subst (λ m. grouped signer_of (allows (first_of ys).digest) n m place 0 ys ≡ Ok (place + m)) long (ap Ok (omega arith))
grouped_marked allows n k z place (x ∷ xs) ys long e =
    subst (λ m. grouped signer_of (allows x.statement.digest) n m place 0 ((x ∷ xs) ++ ys) ≡ Ok (place + m)) long
    (grouped_on signer_of (allows x.statement.digest) n 0 z place 0 (x ∷ xs) ys
    (subst (λ m. grouped signer_of (allows x.statement.digest) n m 0 0 (x ∷ xs) ≡ Ok z) (sym long) e))

module _ (accepts : Statement → ℕ → Bool) (terms : Terms) (digests : ℕ → ℕ → DigestValue) where
  abbrev T : List Sealed → Type 0
  T p = TrueParting accepts terms digests p

  -- a quorum that stands alone stands wherever it begins
  quorum_on : (allows : Sealed → Bool) (place : ℕ) (xs ys : List Sealed) → Quorum terms allows xs
      → grouped signer_of allows terms.threshold.n terms.threshold.q place 0 (xs ++ ys) ≡ Ok (place + terms.threshold.q)
  quorum_on allows place xs ys w =
      subst (λ m. grouped signer_of allows terms.threshold.n m place 0 (xs ++ ys) ≡ Ok (place + m)) w.long
      (grouped_on signer_of allows terms.threshold.n 0 terms.threshold.q place 0 xs ys
      (subst (λ m. grouped signer_of allows terms.threshold.n m 0 0 xs ≡ Ok terms.threshold.q) (sym w.long) w.stands))

  -- a tally is the claim of a parting, without a clash
  pub record Stands (s : ℕ) (best : List Sealed) (c : Tally) : Type 0 where
    pub epoch : c.claim.epoch ≡ claimed_epoch s best
    pub digest : c.claim.digest ≡ (claim_in s best).digest
    pub clear : c.clash ≡ false
    pub one : c.claim.digest ≡ digests c.claim.epoch s

  stands_next : (s : ℕ) (best p : List Sealed) (c : Tally) (st : Statement) → Stands s best c → st ≡ claim_in s p → st.digest ≡ digests st.held s
      → Stands s (higher (claimed_epoch s) best p) (tallied c st)
  stands_next s best p c st w is one =
      let same : st.held ≡ claimed_epoch s p = ap (λ x. x.held) is in
      let was : c.claim.epoch ≡ claimed_epoch s best = w.epoch in
      elim (cases_lt c.claim.epoch st.held) [
        | inl h ↦
            let taken : higher (claimed_epoch s) best p ≡ p = cond-true _ p best (lt-ltb (claimed_epoch s best) (claimed_epoch s p) (omega arith)) in
            let new : Tally = record { claim = record { epoch = st.held; digest = st.digest }; clash = false } in
            let is_new : tallied c st ≡ new = cond-true _ _ _ (lt-ltb c.claim.epoch st.held h) in
            subst (λ b. Stands s b (tallied c st)) (sym taken) (subst (λ t. Stands s p t) (sym is_new)
            (record { epoch = same; digest = ap (λ x. x.digest) is; clear = refl; one = one }))
        | inr h ↦
            let stays : higher (claimed_epoch s) best p ≡ best = cond-false _ p best (le-ltb (claimed_epoch s best) (claimed_epoch s p) (omega arith)) in
            let no_clash : (eqb st.held c.claim.epoch && not (same_digest st.digest c.claim.digest)) ≡ false =
            elim (cases_eq st.held c.claim.epoch) [
              | inl e ↦ and_right (eqb st.held c.claim.epoch) _ (not_from_true _ (subst (λ d. same_digest st.digest d ≡ true) (one ∙ ap (λ n. digests n s) e ∙ sym w.one) (same_digest_self st.digest)))
              | inr ne ↦ and_left (eqb st.held c.claim.epoch) _ (ne_eqb st.held c.claim.epoch ne)
            ] in
            let is_old : tallied c st ≡ c = cond-false _ _ _ (le-ltb c.claim.epoch st.held h) ∙ cond-false _ _ _ no_clash in
            subst (λ b. Stands s b (tallied c st)) (sym stays) (subst (λ t. Stands s best t) (sym is_old) w)
      ]

  -- a held statement where it is looked for
  held_there : (rs : List Sealed) (s signer place : ℕ) (is_last : Bool) (c : Tally) (r : Sealed) → get_or rs place none ≡ r → place < length rs
      → Claims accepts terms digests signer s r → (tallied c r.statement).clash ≡ false
      → held_one accepts terms rs s signer is_last c place ≡ Some (tallied c r.statement)
  held_there rs s signer place is_last c r is there ok clear =
      ap (λ x. cond (ltb place (length rs) && (held_fits terms.epoch s signer x.statement && (not (is_last && (tallied c x.statement).clash) && accepts x.statement x.seal))) (Some (tallied c x.statement)) None) is
      ∙ cond-true _ _ _ (and_from _ _ (lt-ltb place (length rs) there) (and_from _ _ ok.fits (and_from _ _ (not_from_false _ (and_right is_last _ clear)) ok.genuine)))

  -- THE HELD STATEMENTS OF ONE NUMBER

  pub record Ran (s : ℕ) (best : List Sealed) (r : Result (Found Tally) ℕ) (end : ℕ) : Type 0 where
    pub value : Found Tally
    pub is : r ≡ Ok value
    pub next : value.next ≡ end
    pub stands : Stands s best value.value

  module _ (rs : List Sealed) (s last : ℕ) where
    run_skip : (j place : ℕ) (c : Tally) (p : List Sealed) (ps : List (List Sealed)) (best : List Sealed) → stable_in p + 32 < s
        → Ran s (fold (higher (claimed_epoch s)) best ps) (helds_from accepts terms rs s last (j + 1) c place (map head_of ps)) (place + length (flat_map (held_in s) ps))
        → Ran s (fold (higher (claimed_epoch s)) best (p ∷ ps)) (helds_from accepts terms rs s last j c place (map head_of (p ∷ ps))) (place + length (flat_map (held_in s) (p ∷ ps)))
    run_skip j place c p ps best far w =
        let gone : held_in s p ≡ [] = held_none s p far in
        let zero_claim : claimed_epoch s p ≡ 0 = ap (λ l. (first_of l).held) gone in
        let stays : higher (claimed_epoch s) best p ≡ best = cond-false _ p best (le-ltb (claimed_epoch s best) (claimed_epoch s p) (omega arith)) in
        record {
          value = w.value;
          is = cond-false _ _ _ (lt-leb (s - 32) (stable_in p) (omega arith)) ∙ w.is;
          next = w.next ∙ ap (λ l. place + length (l ++ flat_map (held_in s) ps)) (sym gone);
          stands = subst (λ b. Stands s (fold (higher (claimed_epoch s)) b ps) w.value.value) (sym stays) w.stands;
        }

    run_more : (j place : ℕ) (c after : Tally) (p : List Sealed) (ps : List (List Sealed)) (best : List Sealed) (r : Sealed)
        → s ≤ stable_in p + 32 → held_in s p ≡ r ∷ [] → held_one accepts terms rs s (first_of p).signer (eqb j last) c place ≡ Some after
        → Ran s (fold (higher (claimed_epoch s)) (higher (claimed_epoch s) best p) ps) (helds_from accepts terms rs s last (j + 1) after (place + 1) (map head_of ps)) (place + 1 + length (flat_map (held_in s) ps))
        → Ran s (fold (higher (claimed_epoch s)) best (p ∷ ps)) (helds_from accepts terms rs s last j c place (map head_of (p ∷ ps))) (place + length (flat_map (held_in s) (p ∷ ps)))
    run_more j place c after p ps best r near one-held found_it w =
        let longer : place + 1 + length (flat_map (held_in s) ps) ≡ place + length (r ∷ flat_map (held_in s) ps) = omega arith in
        record {
          value = w.value;
          is = cond-true _ _ _ (le-leb (s - 32) (stable_in p) (omega arith))
              ∙ ap (λ o. or_fault o place (λ c'. helds_from accepts terms rs s last (j + 1) c' (place + 1) (map head_of ps))) found_it ∙ w.is;
          next = w.next ∙ longer ∙ ap (λ l. place + length (l ++ flat_map (held_in s) ps)) (sym one-held);
          stands = w.stands;
        }

    helds_run : (j place : ℕ) (c : Tally) (ps : List (List Sealed)) (pre post best : List Sealed)
        → AllByRecursion T ps → AllByRecursion (λ p. stable_in p < s) ps → rs ≡ pre ++ (flat_map (held_in s) ps ++ post) → length pre ≡ place → Stands s best c
        → Ran s (fold (higher (claimed_epoch s)) best ps) (helds_from accepts terms rs s last j c place (map head_of ps)) (place + length (flat_map (held_in s) ps))
    helds_run j place c [] pre post best all low is long w = record { value = record { value = c; next = place }; is = refl; next = omega arith; stands = w }
    helds_run j place c (p ∷ ps) pre post best all low is long w =
        let rest = flat_map (held_in s) ps in
        elim (cases_lt (stable_in p + 32) s) [
          | inl far ↦
              run_skip j place c p ps best far
              (helds_run (j + 1) place c ps pre post best all.1 low.1 (is ∙ ap (λ l. pre ++ ((l ++ rest) ++ post)) (held_none s p far)) long w)
          | inr near ↦
              let r = get_or p (s - stable_in p) none in
              let ok = all.0.claims s low.0 near in
              let one-held = held_one_of s p low.0 near (all.0.reaches s low.0 near) in
              let is' : rs ≡ pre ++ r ∷ (rest ++ post) = is ∙ ap (λ l. pre ++ ((l ++ rest) ++ post)) one-held in
              let there : place < length rs = omega (arith, ap length is', length-append pre (r ∷ (rest ++ post))) in
              let w' = stands_next s best p c r.statement w (sym (ap first_of one-held)) ok.one_digest in
              let after = tallied c r.statement in
              run_more j place c after p ps best r near one-held
              (held_there rs s (first_of p).signer place (eqb j last) c r (ap (λ l. get_or l place none) is' ∙ get_or_at pre r (rest ++ post) none place long) there ok w'.clear)
              (helds_run (j + 1) (place + 1) after ps (pre ++ r ∷ []) post (higher (claimed_epoch s) best p) all.1 low.1
              (is' ∙ sym (append_assoc pre (r ∷ []) (rest ++ post))) (omega (arith, length-append pre (r ∷ []))) w')
        ]

  -- ONE NUMBER, AND ALL

  pub record Got (r : Result (Found Claim) ℕ) (end : ℕ) : Type 0 where
    pub value : Found Claim
    pub is : r ≡ Ok value
    pub next : value.next ≡ end

  pub record Passed (r : Result (Found (List Claim)) ℕ) (end : ℕ) : Type 0 where
    pub value : Found (List Claim)
    pub is : r ≡ Ok value
    pub next : value.next ≡ end

  module _ (at_none : (s : ℕ) → digests 0 s ≡ value_of 0) (rs : List Sealed) where
    -- what follows the held statements of s
    abbrev after_helds : ℕ → Found Tally → Result (Found Claim) ℕ
    after_helds s g =
        let claim : Claim = g.value.claim in
        cond (eqb claim.epoch 0)
        (Ok (record { value = claim; next = g.next }))
        (onward (quorum_from accepts terms rs (exactly accepts Prepare claim.epoch s claim.digest) g.next) (λ p. Ok (record { value = claim; next = p })))

    no_claim_yet : (s : ℕ) → Stands s [] blank
    no_claim_yet s = record {
      epoch = sym (ap (λ l. (first_of l).held) (held_of_none s));
      digest = sym (ap (λ l. (first_of l).digest) (held_of_none s));
      clear = refl;
      one = sym (at_none s);
    }

    -- nobody holds an epoch: no prepares
    found_none : (s place : ℕ) (best hs : List Sealed) (r : Result (Found Tally) ℕ) → best ≡ [] → Ran s best r (place + length hs)
        → Got (onward r (after_helds s)) (place + length (hs ++ prepares_in s best))
    found_none s place best hs r nobody w =
        let zero_claim : w.value.value.claim.epoch ≡ 0 = w.stands.epoch ∙ ap (claimed_epoch s) nobody ∙ ap (λ l. (first_of l).held) (held_of_none s) in
        record {
          value = record { value = w.value.value.claim; next = w.value.next };
          is = ap (λ x. onward x (after_helds s)) w.is ∙ cond-true _ _ _ (eq-eqb _ _ zero_claim);
          next = w.next ∙ ap (λ l. place + length l) (sym (append-nil hs) ∙ ap (λ l. hs ++ l) (sym (ap (prepares_in s) nobody)));
        }

    -- the prepares of the highest claim
    found_some : (s place : ℕ) (best hs pre post : List Sealed) (r : Result (Found Tally) ℕ) → 0 < claimed_epoch s best
        → Quorum terms (exactly accepts Prepare (claimed_epoch s best) s (claim_in s best).digest) (prepares_in s best)
        → rs ≡ pre ++ (hs ++ (prepares_in s best ++ post)) → length pre ≡ place → Ran s best r (place + length hs)
        → Got (onward r (after_helds s)) (place + length (hs ++ prepares_in s best))
    found_some s place best hs pre post r some quorum is long w =
        let g = w.value in
        let end = place + length hs in
        let backed = prepares_in s best in
        let above : 0 < g.value.claim.epoch = omega (arith, w.stands.epoch) in
        let left : drop end rs ≡ backed ++ post =
        ap (drop end) (is ∙ sym (append_assoc pre hs (backed ++ post))) ∙ drop_at (pre ++ hs) (backed ++ post) end (omega (arith, length-append pre hs)) in
        let stood : quorum_from accepts terms rs (exactly accepts Prepare g.value.claim.epoch s g.value.claim.digest) g.next ≡ Ok (end + terms.threshold.q) =
        (λ i. grouped signer_of (exactly accepts Prepare (w.stands.epoch i) s (w.stands.digest i)) terms.threshold.n terms.threshold.q (w.next i) 0 (drop (w.next i) rs))
        ∙ ap (grouped signer_of (exactly accepts Prepare (claimed_epoch s best) s (claim_in s best).digest) terms.threshold.n terms.threshold.q end 0) left
        ∙ quorum_on _ end backed post quorum in
        record {
          value = record { value = g.value.claim; next = end + terms.threshold.q };
          is = ap (λ x. onward x (after_helds s)) w.is ∙ cond-false _ _ _ (ne_eqb g.value.claim.epoch 0 (λ e. omega arith))
              ∙ ap (λ x. onward x (λ p. Ok (record { value = g.value.claim; next = p }))) stood;
          next = omega (arith, length-append hs backed, quorum.long);
        }

    found_run : (s place : ℕ) (ps : List (List Sealed)) (pre post : List Sealed) → AllByRecursion T ps → AllByRecursion (λ p. stable_in p < s) ps
        → rs ≡ pre ++ (at_number ps s ++ post) → length pre ≡ place
        → Got (found accepts terms rs (map head_of ps) s place) (place + length (at_number ps s))
    unfolding at_number
    found_run s place ps pre post all low is long =
        let best = highest (claimed_epoch s) ps in
        let hs = flat_map (held_in s) ps in
        let is' : rs ≡ pre ++ (hs ++ (prepares_in s best ++ post)) = is ∙ ap (λ l. pre ++ l) (append_assoc hs (prepares_in s best) post) in
        let w = helds_run rs s (last_asked s 0 0 (map head_of ps)) 0 place blank ps pre (prepares_in s best ++ post) [] all low is' long (no_claim_yet s) in
        elim (highest_or_none (claimed_epoch s) [] ps (inl refl)) [
          | inl nobody ↦ found_none s place best hs _ nobody w
          | inr some ↦
              found_some s place best hs pre post _ some
              (highest_keeps (claimed_epoch s) (λ p. 0 < claimed_epoch s p → Quorum terms (exactly accepts Prepare (claimed_epoch s p) s (claim_in s p).digest) (prepares_in s p)) [] ps
              (λ z. absurd (omega (arith, ap (λ l. (first_of l).held) (held_of_none s)))) (All-weaker _ _ (λ p t. t.prepares s) ps all) some)
              is' long w
        ]

    numbers_run : (ps : List (List Sealed)) → AllByRecursion T ps → (k s place : ℕ) (cs : List Claim) (pre : List Sealed) → AllByRecursion (λ p. stable_in p < s) ps
        → rs ≡ pre ++ flat_map (at_number ps) (range_with_len s k) → length pre ≡ place
        → Passed (numbers accepts terms rs (map head_of ps) k s place cs) (length rs)
    unfolding numbers
    numbers_run ps all zero s place cs pre low is long =
        record { value = record { value = cs; next = place }; is = refl; next = omega (arith, ap length is, length-append pre []) }
    numbers_run ps all (suc k) s place cs pre low is long =
        let f = found_run s place ps pre (flat_map (at_number ps) (range_with_len (s + 1) k)) all low is long in
        let w = numbers_run ps all k (s + 1) f.value.next (cs ++ f.value.value ∷ []) (pre ++ at_number ps s) (All-weaker _ _ (λ p h. omega arith) ps low)
        (is ∙ sym (append_assoc pre (at_number ps s) (flat_map (at_number ps) (range_with_len (s + 1) k)))) (length-append pre (at_number ps s) ∙ ap (λ n. n + length (at_number ps s)) long ∙ sym f.next) in
        record {
          value = w.value;
          is = ap (λ x. onward x (λ y. numbers accepts terms rs (map head_of ps) k (s + 1) y.next (cs ++ y.value ∷ []))) f.is ∙ w.is;
          next = w.next;
        }

  -- THE WHOLE

  numbers_low : (ps : List (List Sealed)) (h k : ℕ) → h ≤ 1000000000000 → k ≡ 32 → at_numbers ps h ≡ flat_map (at_number ps) (range_with_len (h + 1) k)
  unfolding at_numbers
  numbers_low ps h k low is-k = cond-true _ _ _ (le-leb h 1000000000000 low) ∙ ap (λ n. flat_map (at_number ps) (range_with_len (h + 1) n)) (sym is-k)

  -- the checkpoints of the base, from the place q on
  checkpoints_on : (ps : List (List Sealed)) (rs front post : List Sealed) → AllByRecursion T ps → length front ≡ terms.threshold.q → rs ≡ front ++ (checkpoints_in (highest stable_in ps) ++ post)
      → checkpoints accepts terms rs (base_in ps) terms.threshold.q ≡ Ok (terms.threshold.q + length (checkpoints_in (highest stable_in ps)))
  checkpoints_on ps rs front post all long is =
      let best = highest stable_in ps in
      let cks = checkpoints_in best in
      let left : drop terms.threshold.q rs ≡ cks ++ post = ap (drop terms.threshold.q) is ∙ drop_at front (cks ++ post) terms.threshold.q long in
      elim (highest_or_none stable_in [] ps (inl refl)) [
        | inl nobody ↦
            cond-true _ _ _ (eq-eqb (base_in ps) 0 (ap stable_in nobody)) ∙ ap Ok (omega (arith, ap (λ p. length (checkpoints_in p)) nobody))
        | inr some ↦
            let quorum = highest_keeps stable_in (λ p. 0 < stable_in p → Quorum terms (exactly accepts Checkpoint 0 (stable_in p) (first_of (checkpoints_in p)).digest) (checkpoints_in p)) [] ps
            (λ z. absurd (omega arith)) (All-weaker _ _ (λ p t. t.checkpoints) ps all) some in
            let above : eqb (base_in ps) 0 ≡ false = ne_eqb (base_in ps) 0 (λ e. omega arith) in
            let same_place : terms.threshold.q + 0 ≡ terms.threshold.q = omega arith in
            let mark : mark_at rs (base_in ps) terms.threshold.q ≡ (first_of (cks ++ post)).digest =
            cond-false _ _ _ above ∙ ap (λ n. (get_or rs n none).statement.digest) (sym same_place)
            ∙ ap (λ r. r.statement.digest) (sym (get_or-drop terms.threshold.q rs 0 none)) ∙ ap (λ l. (first_of l).digest) left in
            cond-false _ _ _ above
            ∙ (λ i. grouped signer_of (exactly accepts Checkpoint 0 (base_in ps) (mark i)) terms.threshold.n terms.threshold.q terms.threshold.q 0 (left i))
            ∙ grouped_marked (λ d. exactly accepts Checkpoint 0 (base_in ps) d) terms.threshold.n terms.threshold.q terms.threshold.q terms.threshold.q cks post quorum.long quorum.stands
            ∙ ap (λ n. Ok (terms.threshold.q + n)) (sym quorum.long)
      ]

  -- what is said after the checkpoints
  abbrev closing : List Sealed → ℕ → DigestValue → Found (List Claim) → Result Opened ℕ
  closing rs base mark w = cond (ltb w.next (length rs)) (Err w.next) (Ok (record { base = base; mark = mark; claims = w.value }))

  accepted_by : ((s : ℕ) → digests 0 s ≡ value_of 0) → (k : ℕ) → k ≡ 32 → (ps : List (List Sealed))
      → Quorum terms (stable_fits accepts terms) (flat_map (one_at 0) ps) → AllByRecursion T ps
      → (o : Opened) × (walked accepts terms (assembled ps) ≡ Ok o) × (o.base ≡ base_in ps)
  accepted_by at_none k is-k ps quorum all =
      let rs = assembled ps in
      let q = terms.threshold.q in
      let h = base_in ps in
      let front = flat_map (one_at 0) ps in
      let best = highest stable_in ps in
      let cks = checkpoints_in best in
      let same_place : 0 + q ≡ q = omega arith in
      let stood : quorum_from accepts terms rs (stable_fits accepts terms) 0 ≡ Ok q = quorum_on (stable_fits accepts terms) 0 front (cks ++ at_numbers ps h) quorum ∙ ap Ok same_place in
      let heads : take q rs ≡ map head_of ps = take_at front (cks ++ at_numbers ps h) q quorum.long ∙ heads_are ps (All-weaker _ _ (λ p t. t.there) ps all) in
      let base_is : largest (take q rs) ≡ h = ap largest heads ∙ largest_is [] ps in
      let low : h ≤ 1000000000000 = omega (arith, base_is, (stables_enough accepts terms rs _ q refl stood).1) in
      let is : rs ≡ (front ++ cks) ++ flat_map (at_number ps) (range_with_len (h + 1) k) =
      sym (append_assoc front cks (at_numbers ps h)) ∙ ap (λ l. (front ++ cks) ++ l) (numbers_low ps h k low is-k) in
      let w = numbers_run at_none rs ps all k (h + 1) (q + length cks) [] (front ++ cks) (All-weaker _ _ (λ p le. omega arith) ps (highest_above stable_in [] ps)) is
      (length-append front cks ∙ ap (λ n. n + length cks) quorum.long) in
      let counted : numbers accepts terms rs (take q rs) 32 (h + 1) (q + length cks) [] ≡ Ok w.value =
      ap (λ ts. numbers accepts terms rs ts 32 (h + 1) (q + length cks) []) heads
      ∙ ap (λ n. numbers accepts terms rs (map head_of ps) n (h + 1) (q + length cks) []) (sym is-k) ∙ w.is in
      let mark = mark_at rs h q in (
        record { base = h; mark = mark; claims = w.value.value },
        ap (λ x. onward x (λ p. after_stables accepts terms rs (largest (take q rs)) p)) stood
            ∙ ap (λ b. after_stables accepts terms rs b q) base_is
            ∙ ap (λ x. onward x (λ p. onward (numbers accepts terms rs (take q rs) 32 (h + 1) p []) (closing rs h mark))) (checkpoints_on ps rs front (at_numbers ps h) all quorum.long refl)
            ∙ ap (λ x. onward x (closing rs h mark)) counted
            ∙ cond-false _ _ _ (le-ltb w.value.next (length rs) (omega (arith, w.next))),
        refl,
      )

pub assembly_accepted : AssemblyAccepted
assembly_accepted accepts terms digests ps at_none quorum all = accepted_by accepts terms digests at_none 32 refl ps quorum all
