-- The premises hold of a run that delivers.
use Rattle.std.proofs.Common.{◌≡◌, ℕ, zero, suc, Bool, true, false, not, ◌&&◌, ◌||◌, eqb, leb, ◌⊎◌, List, [], ◌∷◌, sym, refl, ◌∙◌, inl, inr, arith, lit≤, ap}
use Rattle.std.specs.List.{AllByRecursion}
use Rattle.std.proofs.lemmas.Bool.{leb-true, and_parts, and_from, eq-eqb, le-leb, false≢true}
use Rattle.wire.specs.declared.records.Statement.{Statement}
use Rattle.wire.specs.declared.records.Sealed.{Sealed}
use Rattle.wire.specs.declared.records.Request.{Request}
use Rattle.wire.specs.Values.{same_digest}
use Rattle.quorum.specs.Sizes.{allowed, faults, quorum}
use Rattle.seal.specs.Records.{same_statement}
use Rattle.seal.proofs.Sameness.{same_statement_is}
use Rattle.group.specs.Group.{grouped}
use Rattle.table.specs.Window.{new_table}
use Rattle.window.specs.Spans.{rise}
use Rattle.dossier.specs.Walk.{numbers}
use Rattle.protocol.specs.Delivery.{deliver_one, deliver_ready}
use Rattle.protocol.specs.Enter.{choices}
use Rattle.house.specs.Runs
use Rattle.house.specs.Example
use Rattle.wire.specs.declared.kinds.Kind.TheVariants.{Request as RequestKind}
use Rattle.wire.specs.Kinds.{same_kind}
use Rattle.wire.specs.declared.kinds.Kind.{Kind}
use Rattle.wire.specs.Kinds.{of_controllers}

abbrev node : ℕ → List Runs.Event → Runs.Node ℕ
node = Runs.node Example.value Example.next Example.marked 0 Example.houses

abbrev Vouched : List Runs.Event → Statement → Type 0
Vouched = Runs.Vouched Example.value Example.next Example.marked 0 Example.houses Example.honest Example.honest_client

abbrev Seals : List Runs.Event → Type 0
Seals = Runs.SealsHold Example.value Example.next Example.marked 0 Example.houses Example.honest Example.honest_client

-- SEALS, by a test of the whole run: each request was asked for, and each vote of an honest signer stands among what it issued
abbrev among : List Statement → Statement → Bool
among [] a = false
among (x ∷ xs) a = same_statement x a || among xs a

abbrev was_asked : List Runs.Event → Statement → Bool
was_asked [] st = false
was_asked (Runs.at k outbox c ∷ older) st = was_asked older st
was_asked (Runs.asks client timestamp payload ∷ older) st = same_statement (Runs.asked client timestamp payload) st || was_asked older st

abbrev good_request : List Runs.Event → Statement → Bool
good_request older st = not (same_kind st.kind RequestKind) || was_asked older st

abbrev good_vote : List Runs.Event → Statement → Bool
good_vote older st = not (of_controllers st.kind && Example.honest st.signer) || among (node st.signer older).issued st

abbrev all_good : List Runs.Event → List Sealed → Bool
all_good older [] = true
all_good older (r ∷ rs) = good_request older r.statement && (good_vote older r.statement && all_good older rs)

abbrev run_good : List Runs.Event → Bool
run_good [] = true
run_good (Runs.at k outbox c ∷ older) = all_good older (Runs.handed c) && run_good older
run_good (Runs.asks client timestamp payload ∷ older) = run_good older

-- one of two
either : (a b : Bool) → (a || b) ≡ true → (a ≡ true) ⊎ (b ≡ true)
either true b h = inl refl
either false b h = inr h

-- where the first holds, the second does
follows : (a b : Bool) → (not a || b) ≡ true → a ≡ true → b ≡ true
follows true b h k = h
follows false b h k = absurd (false≢true k)

among_has : (xs : List Statement) (a : Statement) → among xs a ≡ true → Runs.Has xs a
among_has [] a h = absurd (false≢true h)
among_has (x ∷ xs) a h = go (either (same_statement x a) (among xs a) h) (among_has xs a)
  where
    go : (same_statement x a ≡ true) ⊎ (among xs a ≡ true) → (among xs a ≡ true → Runs.Has xs a) → Runs.Has (x ∷ xs) a
    go (inl e) rest = inl (same_statement_is x a e)
    go (inr e) rest = inr (rest e)

asked_has : (older : List Runs.Event) (st : Statement) → was_asked older st ≡ true → Runs.Asked older st
asked_has [] st h = absurd (false≢true h)
asked_has (Runs.at k outbox c ∷ older) st h = asked_has older st h
asked_has (Runs.asks client timestamp payload ∷ older) st h =
    go (either (same_statement (Runs.asked client timestamp payload) st) (was_asked older st) h) (asked_has older st)
  where
    go : (same_statement (Runs.asked client timestamp payload) st ≡ true) ⊎ (was_asked older st ≡ true) → (was_asked older st ≡ true → Runs.Asked older st)
        → Runs.Asked (Runs.asks client timestamp payload ∷ older) st
    go (inl e) rest = inl (same_statement_is (Runs.asked client timestamp payload) st e)
    go (inr e) rest = inr (rest e)

vouched : (older : List Runs.Event) (st : Statement) → good_request older st ≡ true → good_vote older st ≡ true → Vouched older st
vouched older st r v = record {
  request = λ kind _. asked_has older st (follows (same_kind st.kind RequestKind) _ r (ap (λ (k : Kind). same_kind k RequestKind) kind));
  vote = λ of hon. among_has _ st (follows (of_controllers st.kind && Example.honest st.signer) _ v (and_from (of_controllers st.kind) _ of hon));
}

all_vouched : (older : List Runs.Event) (c : Runs.Call) (rs : List Sealed) → all_good older rs ≡ true
    → AllByRecursion (λ r. Runs.accepts_in c r ≡ true → Vouched older r.statement) rs
all_vouched older c [] h = tt
all_vouched older c (r ∷ rs) h =
    let p = and_parts (good_request older r.statement) _ h in
    let q = and_parts (good_vote older r.statement) (all_good older rs) p.1 in
    (λ _. vouched older r.statement p.0 q.0, all_vouched older c rs q.1)

good_seals : (run : List Runs.Event) → run_good run ≡ true → Seals run
good_seals [] h = tt
good_seals (Runs.at k outbox c ∷ older) h =
    let p = and_parts (all_good older (Runs.handed c)) (run_good older) h in
    (λ _ _. all_vouched older c (Runs.handed c) p.0, good_seals older p.1)
good_seals (Runs.asks client timestamp payload ∷ older) h = good_seals older h

seals : Seals Example.run
unfolding Runs.node Runs.after Runs.delivered_upto allowed faults quorum grouped new_table rise deliver_one deliver_ready same_digest choices numbers
seals = good_seals Example.run refl

changing_seals : Seals Example.changing_run
unfolding Runs.node Runs.after Runs.delivered_upto allowed faults quorum grouped new_table rise deliver_one deliver_ready same_digest choices numbers
changing_seals = good_seals Example.changing_run refl

-- a run that hands in only one batch
abbrev Only : List Request → List Runs.Event → Type 0
Only b [] = Unit {0}
Only b (Runs.at k outbox c ∷ older) = AllByRecursion (λ x. x ≡ b) (Runs.batches_in c) × Only b older
Only b (Runs.asks client timestamp payload ∷ older) = Only b older

only : (b : List Request) (run : List Runs.Event) → Only b run → (a : List Request) → Runs.Handed Example.honest run a → a ≡ b
only b [] u a h = absurd h
only b (Runs.asks client timestamp payload ∷ older) u a h = only b older u a h
only b (Runs.at k outbox c ∷ older) u a (inr h) = only b older u.1 a h
only b (Runs.at k outbox c ∷ older) u a (inl h) = go (Runs.batches_in c) u.0 h.1
  where
    go : (xs : List (List Request)) → AllByRecursion (λ x. x ≡ b) xs → Runs.Has xs a → a ≡ b
    go [] all h = absurd h
    go (x ∷ xs) all (inl h) = sym h ∙ all.0
    go (x ∷ xs) all (inr h) = go xs all.1 h

same : (a : List Request) → Runs.Handed Example.honest Example.run a → a ≡ Example.batch
same a h = only Example.batch Example.run ((refl, tt), (tt, (tt, (tt, (tt, (tt, (tt, (tt, (tt, (tt, ((refl, tt), ((refl, tt), tt)))))))))))) a h

same_changing : (a : List Request) → Runs.Handed Example.honest Example.changing_run a → a ≡ Example.batch
same_changing a h =
    only Example.batch Example.changing_run
    ((refl, tt), (tt, (tt, (tt, (tt, (tt, (tt, (tt, (tt, (tt, (tt, (tt, (tt, (tt, (tt, (tt, (tt, (tt, (tt, (tt, (tt, (tt, (tt, ((refl, tt), ((refl, tt), tt))))))))))))))))))))))))) a h

member_of : (k : ℕ) → Example.honest k ≡ true → ((Example.houses k).n ≡ 4) × ((Example.houses k).own ≡ k)
member_of zero h = (refl, refl)
member_of (suc zero) h = (refl, refl)
member_of (suc (suc zero)) h = (refl, refl)
member_of (suc (suc (suc k))) h = absurd (omega (arith, leb-true (suc (suc (suc k))) 2 h))

pub premises_hold : Example.PremisesHold
unfolding Runs.node Runs.after Runs.delivered_upto allowed faults quorum grouped new_table rise deliver_one deliver_ready same_digest choices numbers
premises_hold = record {
  size = refl;
  few = lit≤ tt;
  members = member_of;
  seals = seals;
  digests = λ a b h k _ _ _. same a h ∙ sym (same b k);
  one_delivers = refl;
  two_delivers = refl;
  delivered = refl;
  state = refl;
  changing_seals = changing_seals;
  changing_digests = λ a b h k _ _ _. same_changing a h ∙ sym (same_changing b k);
  one_delivers_first = refl;
  two_delivers_later = refl;
  later = refl;
}
