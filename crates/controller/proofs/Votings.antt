-- What a vote does to a table, and that it keeps it tame.
use Rattle.std.proofs.Common.{◌≡◌, ℕ, ◌+◌, ◌-◌, ◌%◌, ◌≤◌, min, Bool, true, false, cond, not, ◌&&◌, ◌||◌, eqb, ltb, leb, List, [], ◌∷◌, map, length, drop, is_some, Some, None, Option, sym, refl, ap, ◌∙◌, subst, arith}
use Rattle.std.proofs.lemmas.List.{length-map}
use Rattle.std.proofs.lemmas.Bool.{or_parts, ltb-false, cond-false, cond_both}
use Rattle.wire.specs.declared.records.DigestValue.{DigestValue}
use Rattle.wire.specs.declared.records.Statement.{Statement}
use Rattle.wire.specs.declared.records.Sealed.{Sealed}
use Rattle.quorum.specs.Sizes.{faults, quorum}
use Rattle.group.specs.Group.{list_fault}
use Rattle.group.proofs.Groups.{groups}
use Rattle.table.specs.declared.records.Ballots.{Ballots}
use Rattle.table.specs.declared.records.Votes.{Votes}
use Rattle.table.specs.declared.records.Table.{Table}
use Rattle.table.specs.Ballots.{backers, listed, just_backed, vote_signer}
use Rattle.table.specs.Places.{prepared, committed, certified}
use Rattle.table.specs.Window.{in_window, place_at, certify_at, row_at, move_to}
use Rattle.protocol.specs.declared.records.Core.{Core}
use Rattle.controller.specs.declared.post.Post.{Post}
use Rattle.protocol.specs.declared.refusal.Refusal.TheVariants.{Room, Signer, Kind, Epoch, Number}
use Rattle.protocol.specs.State.{size, own, enough, with_table, limit}
use Rattle.protocol.specs.Call.{cramped, unsealed}
use Rattle.protocol.specs.Delivery.{begin}
use Rattle.protocol.specs.Vote.{of_epoch, no_vote_kind, not_voted, vote_refusal, ballot_of, commit_of, with_prepare, now_prepared, prepare_table, prepare_issued, commit_table, with_checkpoint, checkpoint_table, vote_table, vote_issued}
use Rattle.controller.specs.Sound.{Sound}
use Rattle.controller.specs.Sending.{Sent}
use Rattle.controller.specs.Agree.{Voted, Reached, no_progress}
use Rattle.controller.proofs.Kept.{Tame, tame_with, few_drop, few_append}
use Rattle.controller.proofs.Passes.{passes, roomy, tame}
use Rattle.controller.proofs.Posts.{sent_none, sent_long}
use Rattle.wire.specs.declared.kinds.Kind.TheVariants.{Prepare, Commit, Checkpoint}
use Rattle.wire.specs.Kinds.{same_kind}

-- a checkpoint, which is neither prepare nor commit
pub other_voted : (c : Core) (v : Sealed) (post : Post) (c' : Core) → same_kind v.statement.kind Prepare ≡ false → same_kind v.statement.kind Commit ≡ false → c' ≡ with_table c (checkpoint_table c v)
    → Voted c (vote_table c v) (vote_issued c v) post c' post
other_voted c v post c' n₃ n₄ is =
    let st = v.statement in
    let table = cond-false (same_kind st.kind Prepare) (prepare_table c v) (cond (same_kind st.kind Commit) (commit_table c v) (checkpoint_table c v)) n₃ ∙ cond-false (same_kind st.kind Commit) (commit_table c v) (checkpoint_table c v) n₄ in
    record {
      core = is ∙ ap (with_table c) (sym table);
      out = subst (λ l. Sent post post (map unsealed l)) (sym (cond-false (same_kind st.kind Prepare) (prepare_issued c v) [] n₃)) (sent_none post);
    }

few_one : (b : Bool) (st : Statement) → length (cond b (st ∷ []) []) ≤ 1
few_one true st = omega arith
few_one false st = omega arith

pub vote_few : (c : Core) (v : Sealed) → length (vote_issued c v) ≤ 1
vote_few c v =
    let st = v.statement in
    cond_both (same_kind st.kind Prepare) (prepare_issued c v) [] (λ l. length l ≤ 1) (λ _. few_one (now_prepared c v) (commit_of (own c) c.view.epoch st.number st.digest)) (λ _. omega arith)

-- what a vote issues leaves room
pub vote_left : (c : Core) (v : Sealed) (p q : Post) → p.sent ≡ 0 → 400 ≤ length p.outbox.now → Sent p q (map unsealed (vote_issued c v))
    → (q.sent ≤ length p.outbox.now) × (q.sent + 32 ≤ length q.outbox.now)
vote_left c v p q zeros room is =
    let few : q.sent ≤ 1 = omega (arith, is.sent, length-map (vote_issued c v) unsealed, vote_few c v, zeros) in
    (omega (arith, few, room), omega (arith, few, room, sent_long p q (map unsealed (vote_issued c v)) is (omega (arith, few, room))))

-- TAME

pub quorum_low : (n : ℕ) → n ≤ 16 → quorum n ≤ 11
unfolding quorum faults
quorum_low n h = omega arith

backed_long : (n q : ℕ) (d : DigestValue) (b : Ballots) → just_backed n q d b ≡ true → length (backers d b) ≡ q
backed_long n q d b e = ((groups vote_signer (λ _. true)).whole n q (backers d b) (go (list_fault vote_signer (λ _. true) n q (backers d b)) e)).long
  where
    go : (o : Option ℕ) → not (is_some o) ≡ true → o ≡ None
    go None h = refl
    go (Some i) h = let z : ◌≡◌ {A = ℕ} 0 1 = cc in absurd (omega arith)

pub tame_move : (t : Table) (s : ℕ) (proof : Votes) → Tame t → s ≤ 1000000000000 → proof.count ≤ 11 → Tame (move_to t s proof)
tame_move t s proof h low few =
    cond_both (ltb t.stable s) _ t Tame
    (λ _. record { stable = low; proof = few; few = few_append (drop (min (s - t.stable) 32) t.places) (min (s - t.stable) 32) (few_drop (min (s - t.stable) 32) t.places h.few) })
    (λ _. h)

unnot : (b : Bool) → not b ≡ false → b ≡ true
unnot true h = refl
unnot false h = sym h

-- a kind that is none of the others
last_kind : (a b d : Bool) → ((a || b) || d) ≡ true → a ≡ false → b ≡ false → d ≡ true
last_kind false false d h x y = h
last_kind false true d h x y = absurd (let z : ◌≡◌ {A = ℕ} 0 1 = cc in omega arith)
last_kind true b d h x y = absurd (let z : ◌≡◌ {A = ℕ} 0 1 = cc in omega arith)

right_false : (a b : Bool) → a ≡ true → (a && b) ≡ false → b ≡ false
right_false true b h e = e
right_false false b h e = absurd (let z : ◌≡◌ {A = ℕ} 0 1 = cc in omega arith)

module _ (accepts : Statement → ℕ → Bool) (c : Core) (outbox : List Sealed) (v : Sealed) (e : None ≡ vote_refusal accepts c outbox v) where
  vote_kind : no_vote_kind v.statement ≡ false
  vote_kind = (passes (no_vote_kind v.statement) Kind _ (passes (cramped outbox) Room _ e).1).0

  vote_number : not_voted c v.statement ≡ false
  vote_number =
      let st = v.statement in
      let a = passes (cramped outbox) Room _ e in
      let b = passes (no_vote_kind st) Kind _ a.1 in
      let d = passes (leb (size c) st.signer) Signer _ b.1 in
      let f = passes (of_epoch st.kind && (c.view.changing || not (eqb st.epoch c.view.epoch))) Epoch _ d.1 in
      (passes (not_voted c st) Number _ f.1).0

  pub vote_room : 400 ≤ length outbox
  vote_room = roomy outbox (passes (cramped outbox) Room _ e).0

  module _ (h : Sound c) where
    tame_prepare : Tame (prepare_table c v)
    tame_prepare =
        let st = v.statement in
        let t₁ : Tame (with_prepare c v) = tame_with c.table st.number (prepared st.signer (ballot_of v) (place_at c.table st.number)) (tame c h) (h.3 (st.number - c.table.stable - 1)) in
        cond_both (now_prepared c v) (certify_at (with_prepare c v) st.number c.view.epoch st.digest) (with_prepare c v) Tame
        (λ full. tame_with (with_prepare c v) st.number (certified c.view.epoch st.digest (place_at (with_prepare c v) st.number)) t₁
        (omega (arith, backed_long (size c) (enough c) st.digest (place_at (with_prepare c v) st.number).prepares full, quorum_low (size c) c.house.few)))
        (λ _. t₁)

    tame_checkpoint : v.statement.number ≤ 1000000000000 → Tame (checkpoint_table c v)
    tame_checkpoint low =
        let st = v.statement in
        let row = row_at (with_checkpoint c v) st.number in
        let t₁ : Tame (with_checkpoint c v) = record { stable = h.0; proof = h.2; few = h.3 } in
        cond_both (just_backed (size c) (enough c) st.digest row) (move_to (with_checkpoint c v) st.number (listed (backers st.digest row))) (with_checkpoint c v) Tame
        (λ full. tame_move (with_checkpoint c v) st.number (listed (backers st.digest row)) t₁ low
        (omega (arith, backed_long (size c) (enough c) st.digest row full, quorum_low (size c) c.house.few)))
        (λ _. t₁)

    low_number : same_kind v.statement.kind Prepare ≡ false → same_kind v.statement.kind Commit ≡ false → v.statement.number ≤ 1000000000000
    low_number n₃ n₄ =
        let st = v.statement in
        let kinds = or_parts (not (of_epoch st.kind || same_kind st.kind Checkpoint)) _ vote_kind in
        let five = last_kind (same_kind st.kind Prepare) (same_kind st.kind Commit) (same_kind st.kind Checkpoint) (unnot (of_epoch st.kind || same_kind st.kind Checkpoint) kinds.0) n₃ n₄ in
        let number = or_parts (not (in_window c.table st.number)) _ vote_number in
        let limits = right_false (same_kind st.kind Checkpoint) (ltb limit st.number || not (eqb (st.number % 16) 0)) five number.1 in
        ltb-false limit st.number (or_parts (ltb limit st.number) _ limits).0

    pub vote_tame : Tame (vote_table c v)
    vote_tame =
        let st = v.statement in
        cond_both (same_kind st.kind Prepare) (prepare_table c v) (cond (same_kind st.kind Commit) (commit_table c v) (checkpoint_table c v)) Tame
        (λ _. tame_prepare)
        (λ n₃. cond_both (same_kind st.kind Commit) (commit_table c v) (checkpoint_table c v) Tame
        (λ _. tame_with c.table st.number (committed st.signer (ballot_of v) (place_at c.table st.number)) (tame c h) (h.3 (st.number - c.table.stable - 1)))
        (λ n₄. tame_checkpoint (low_number n₃ n₄)))

-- what was voted is where a delivery begins
pub voted_reached : {X : Type 0} (next : X → ℕ → ℕ → ℕ → X) (marked : X → ℕ) (c : Core) (t : Table) (issued : List Statement) (post : Post) (c' : Core) (x : X) (post' : Post)
    → Voted c t issued post c' post' → Reached (with_table c t) post no_progress (begin next marked (with_table c t) x issued) c' x post' no_progress
voted_reached next marked c t issued post c' x post' is = record { core = is.core; app = refl; out = is.out; progress = refl }
