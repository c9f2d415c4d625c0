-- The end of a call that delivers.
use Rattle.std.proofs.Common.{◌≡◌, ℕ, suc, ◌+◌, ◌≤◌, Bool, true, false, cond, not, ◌||◌, eqb, ltb, List, [], ◌∷◌, map, length, None, Ok, Option, sym, refl, ap, ◌∙◌, subst, append-nil, arith}
use Rattle.std.proofs.lemmas.List.{length-map}
use Rattle.std.proofs.lemmas.Bool.{or_parts, ltb-false, eqb-true, cond-false, ne_eqb}
use Rattle.wire.specs.declared.records.DigestValue.{DigestValue}
use Rattle.wire.specs.declared.records.Statement.{Statement}
use Rattle.wire.specs.declared.records.Sealed.{Sealed}
use Rattle.wire.specs.declared.records.Request.{Request}
use Rattle.group.specs.Group.{commits_fault}
use Rattle.protocol.specs.declared.records.Core.{Core}
use Rattle.protocol.specs.declared.records.Answer.{Answer}
use Rattle.controller.specs.declared.progress.Progress.{Progress}
use Rattle.protocol.specs.declared.refusal.Refusal.{Refusal}
use Rattle.protocol.specs.declared.refusal.Refusal.TheVariants.{Room, Number, Batch as BadBatch}
use Rattle.protocol.specs.Refusals.{first_of, at_record}
use Rattle.protocol.specs.State.{size, own, enough, limit}
use Rattle.protocol.specs.Call.{unsealed, written_over, first_number, called, cramped, delivering}
use Rattle.protocol.specs.Delivery.{Flow, deliver_ready, deliver_one, begin}
use Rattle.protocol.specs.Offer.{no_batch_of}
use Rattle.protocol.specs.Prove.{proved_digest, prove_refusal}
use Rattle.controller.specs.Sound.{Sound}
use Rattle.controller.specs.declared.post.Post.{Post}
use Rattle.controller.specs.Agree.{Agrees, Reached, core_after, progress_after, answered, no_progress}
use Rattle.controller.proofs.Kept.{Tame}
use Rattle.controller.proofs.Posts.{posted_all}
use Rattle.controller.proofs.Passes.{passes, both_pass, roomy}
use Rattle.controller.proofs.Flows.{one_number}

first_is : {Y : Type 0} (d : ℕ) (bs : List Y) → cond (eqb (length bs) 0) 0 (d + 1) ≡ first_number d bs
first_is d [] = refl
first_is d (b ∷ bs) = cond-false {A = ℕ} (eqb (suc (length bs)) 0) 0 (d + 1) (ne_eqb (suc (length bs)) 0 (λ h. omega (arith, h)))

module _ {X : Type 0} (next : X → ℕ → ℕ → ℕ → X) (marked : X → ℕ) where
  -- the answer is that of what was delivered
  answer_is : (n d : ℕ) (p : Progress) (f : Flow X) → n ≡ length f.issued → p ≡ progress_after no_progress f
      → answered n d p ≡ record { issued = length f.issued; forwarded = 0; first = first_number d f.batches; batches = length f.batches; applied = f.applied; passed = f.passed }
  answer_is n d p f issued e =
      let batches : 0 + length f.batches ≡ length f.batches = omega arith in
      let applied : 0 + f.applied ≡ f.applied = omega arith in
      let passed : 0 + f.passed ≡ f.passed = omega arith in
      ap (answered n d) e
      ∙ (λ i. record {
        issued = issued i;
        forwarded = 0;
        first = (ap (λ n. cond (eqb n 0) 0 (d + 1)) batches ∙ first_is d f.batches) i;
        batches = batches i;
        applied = applied i;
        passed = passed i;
      })

  pub delivered_agrees : (c after : Core) (x : X) (box box' : List Sealed) (start end : Post) (o : Option Refusal) (f : Flow X) (c' : Core) (x' : X) (p : Progress) (a : Answer)
      → None ≡ o → start.outbox.now ≡ box → start.sent ≡ 0 → Reached after start no_progress (deliver_ready next marked 32 after f) c' x' end p → box' ≡ end.outbox.now
      → a ≡ answered end.sent c.delivered p → Agrees (called c x box o (delivering next marked after f)) (Ok a) c' x' box'
  delivered_agrees c after x box box' start end o f c' x' p a none at zeros is out ans =
      subst (λ r. Agrees (called c x box r (delivering next marked after f)) (Ok a) c' x' box') none
      (let all = deliver_ready next marked 32 after f in
      let posted = posted_all start end (map unsealed all.issued) box box' at zeros is.out out in
      record {
        result = ap Ok (ans ∙ answer_is end.sent c.delivered p all (posted.1 ∙ length-map all.issued unsealed) is.progress);
        core = is.core;
        app = is.app;
        outbox = posted.0 ∙ sym (ap (λ l. written_over l box) (append-nil (map unsealed all.issued)));
      })

  -- what a delivery leaves is sound
  pub flow_sound : (after : Core) (f : Flow X) (c' : Core) → c' ≡ core_after after f → Tame after.table → c'.delivered ≤ 1000000000032 → Sound c'
  flow_sound after f c' e h low =
      let t = subst Tame (sym (ap (λ (k : Core). k.table) e)) h in
      (t.stable, low, t.proof, t.few)

  pub one_low : (c : Core) (x : X) (rs : List Request) (box : Post) (p : Progress) (c' : Core) (x' : X) (box' : Post) (p' : Progress) → c.delivered + 1 ≤ 1000000000000
      → Reached c box p (deliver_one next marked (own c) (begin next marked c x []) rs) c' x' box' p' → c'.delivered ≤ 1000000000032
  one_low c x rs box p c' x' box' p' h is =
      let at : c'.delivered ≡ c.delivered + 1 = ap (λ (n : Core). n.delivered) is.core ∙ one_number next marked (own c) (begin next marked c x []) rs in
      omega arith

-- PROVE

pub prove_may : (accepts : Statement → ℕ → Bool) (value : List ℕ → DigestValue) (c : Core) (outbox : List Sealed) (s : ℕ) (rs : List Request) (list : List Sealed)
    → None ≡ prove_refusal accepts value c outbox s rs list
    → (length rs ≤ 16) × (400 ≤ length outbox) × (c.delivered + 1 ≤ 1000000000000)
prove_may accepts value c outbox s rs list e =
    let all = both_pass (first_of ((cramped outbox, Room) ∷ (not (eqb s (c.delivered + 1)) || ltb limit s, Number) ∷ [])) _ e in
    let rest = both_pass (at_record (commits_fault accepts (size c) (enough c) s list)) _ all.1 in
    let a = passes (cramped outbox) Room _ all.0 in
    let b = passes (not (eqb s (c.delivered + 1)) || ltb limit s) Number _ a.1 in
    let n = or_parts (not (eqb s (c.delivered + 1))) (ltb limit s) b.0 in
    let d = passes (no_batch_of value (proved_digest list) rs) BadBatch _ rest.1 in
    let same : s ≡ c.delivered + 1 = eqb-true s (c.delivered + 1) (unnot (eqb s (c.delivered + 1)) n.0) in
    (ltb-false 16 (length rs) (or_parts (ltb 16 (length rs)) _ d.0).0, roomy outbox a.0, omega (arith, ltb-false limit s n.1, same))
  where
    unnot : (b : Bool) → not b ≡ false → b ≡ true
    unnot true h = refl
    unnot false h = sym h
