-- What is known where no check refuses.
use Rattle.std.proofs.Common.{◌≡◌, ℕ, ◌+◌, ◌-◌, ◌≤◌, Bool, true, false, cond, List, [], ◌∷◌, ◌++◌, map, length, replicate, Some, None, Ok, Err, Option, Result, refl, ap, ◌∙◌, subst, arith}
use Rattle.std.proofs.lemmas.Bool.{ltb-false}
use Rattle.wire.specs.declared.records.DigestValue.{DigestValue}
use Rattle.wire.specs.declared.records.Statement.{Statement}
use Rattle.wire.specs.declared.records.Sealed.{Sealed}
use Rattle.wire.specs.declared.records.Request.{Request}
use Rattle.wire.specs.declared.records.Batch.{Batch}
use Rattle.quorum.specs.declared.house.House.{House}
use Rattle.table.specs.Places.{filled}
use Rattle.protocol.specs.Refusals.{or_else, ok_unless}
use Rattle.protocol.specs.Offer.{prepare_of, offer_refusal, offered}
use Rattle.table.specs.declared.records.Table.{Table}
use Rattle.table.specs.Window.{new_table, enter_all, place_at, fill_at}
use Rattle.protocol.specs.declared.records.Answer.{Answer}
use Rattle.protocol.specs.declared.records.View.{View}
use Rattle.protocol.specs.declared.records.Core.{Core}
use Rattle.protocol.specs.declared.refusal.Refusal.{Refusal}
use Rattle.protocol.specs.State.{size, own, with_table, new_core}
use Rattle.protocol.specs.Call.{Effect, unsealed, called, cramped, quiet}
use Rattle.wire.specs.Frames.{stored}
use Rattle.protocol.specs.Change.{undelivered, after_last, turned}
use Rattle.controller.specs.Sound.{Sound}
use Rattle.controller.specs.declared.post.Post.{Post}
use Rattle.controller.specs.Sending.{Sent}
use Rattle.controller.specs.Agree.{Agrees, turn_core}
use Rattle.controller.proofs.Posts.{posted_all}
use Rattle.controller.proofs.Kept.{few_empty, entered_none, few_entered, Tame, tame_with}

pub passes : (b : Bool) (r : Refusal) (o : Option Refusal) → None ≡ cond b (Some r) o → (b ≡ false) × (None ≡ o)
passes false r o e = (refl, e)
passes true r o e = let z : ◌≡◌ {A = ℕ} 0 1 = cc in absurd (omega arith)

pub roomy : (outbox : List Sealed) → cramped outbox ≡ false → 400 ≤ length outbox
roomy outbox e = ltb-false (length outbox) 400 e

reached : (last : Option ℕ) (d : ℕ) → undelivered last d ≡ false → after_last last ≤ d + 1
reached None d e = omega arith
reached (Some last) d e = let h = ltb-false d last e in omega arith

pub turn_made : (c : Core) (v : View) (t : Table) → v ≡ turned (size c) c.view → t ≡ enter_all c.table (replicate 32 None)
    → record { house = c.house; view = v; table = t; delivered = c.delivered; windows = c.windows } ≡ turn_core c
turn_made c v t e h = λ i. record {
  house = c.house;
  view = e i;
  table = (h ∙ (λ j. record { stable = c.table.stable; proof = c.table.proof; rows = c.table.rows; places = entered_none 32 0 c.table.places j })) i;
  delivered = c.delivered;
  windows = c.windows;
}

pub turn_sound : (c : Core) → Sound c → Sound (turn_core c)
turn_sound c h = (h.0, h.1, h.2, few_entered 0 [] c.table.places h.3)

pub both_pass : (a b : Option Refusal) → None ≡ or_else a b → (None ≡ a) × (None ≡ b)
both_pass None b e = (refl, e)
both_pass (Some r) b e = let z : ◌≡◌ {A = ℕ} 0 1 = cc in absurd (omega arith)

-- a value that no refusal stands before
pub allowed : {A : Type 0} (a b : A) (o : Option Refusal) → Ok b ≡ ok_unless a o → (b ≡ a) × (None ≡ o)
allowed a b None e = (cc, refl)
allowed a b (Some r) e = absurd (let z : ◌≡◌ {A = ℕ} 0 1 = cc in omega arith)

-- a refused call leaves all as it was
pub refused : {A X : Type 0} (a : A) (r : Refusal) (o : Option Refusal) (c : Core) (x : X) (box : List Sealed) (e : Effect X) (res : Result Answer Refusal) → Err r ≡ ok_unless a o → res ≡ Err r
    → Agrees (called c x box o e) res c x box
refused a r None c x box e res h is = absurd (let z : ◌≡◌ {A = ℕ} 0 1 = cc in omega arith)
refused a r (Some q) c x box e res h is = record { result = (let same : r ≡ q = cc in is ∙ ap Err same); core = refl; app = refl; outbox = refl }

-- an accepted call that delivers nothing
pub quiet_agrees : {X : Type 0} (c after : Core) (x : X) (box box' : List Sealed) (start end : Post) (o : Option Refusal) (issued : List Statement) (forwarded : List Sealed) (c' : Core) (a : Answer)
    → None ≡ o → c' ≡ after → start.outbox.now ≡ box → start.sent ≡ 0 → Sent start end (map unsealed issued ++ forwarded) → box' ≡ end.outbox.now
    → a ≡ record { issued = length issued; forwarded = length forwarded; first = 0; batches = 0; applied = 0; passed = 0 }
    → Agrees (called c x box o (quiet after x issued forwarded)) (Ok a) c' x box'
quiet_agrees c after x box box' start end o issued forwarded c' a none hc at zeros is out ha =
    subst (λ r. Agrees (called c x box r (quiet after x issued forwarded)) (Ok a) c' x box') none
    (record { result = ap Ok ha; core = hc; app = refl; outbox = (posted_all start end (map unsealed issued ++ forwarded) box box' at zeros is out).0 })

pub offer_agrees : {X : Type 0} (accepts : Statement → ℕ → Bool) (value : List ℕ → DigestValue) (c : Core) (x : X) (box box' : List Sealed) (p : Sealed) (rs : List Request) (start end : Post) (b : Batch) (c' : Core) (a : Answer)
    → (b ≡ stored rs) × (None ≡ offer_refusal accepts value c box p rs) → c' ≡ with_table c (fill_at c.table p.statement.number p.statement.digest (Some b))
    → start.outbox.now ≡ box → start.sent ≡ 0 → Sent start end (unsealed (prepare_of (own c) c.view.epoch p.statement.number p.statement.digest) ∷ []) → box' ≡ end.outbox.now
    → a ≡ record { issued = 1; forwarded = 0; first = 0; batches = 0; applied = 0; passed = 0 } → Agrees (offered accepts value c x box p rs) (Ok a) c' x box'
offer_agrees accepts value c x box box' p rs start end b c' a ok hc at zeros is out ha =
    let st = p.statement in
    quiet_agrees c (with_table c (fill_at c.table st.number st.digest (Some (stored rs)))) x box box' start end (offer_refusal accepts value c box p rs)
    (prepare_of (own c) c.view.epoch st.number st.digest ∷ []) [] c' a ok.1 (hc ∙ ap (λ d. with_table c (fill_at c.table st.number st.digest (Some d))) ok.0) at zeros is out ha

-- a core with another table
pub tame : (c : Core) → Sound c → Tame c.table
tame c h = record { stable = h.0; proof = h.2; few = h.3 }

pub sound_with : (c : Core) (t : Table) → Sound c → Tame t → Sound (with_table c t)
sound_with c t h k = (k.stable, h.1, k.proof, k.few)

pub offer_sound : (c : Core) (p : Sealed) (b : Batch) → Sound c → Sound (with_table c (fill_at c.table p.statement.number p.statement.digest (Some b)))
offer_sound c p b h =
    let s = p.statement.number in
    sound_with c (fill_at c.table s p.statement.digest (Some b)) h
    (tame_with c.table s (filled p.statement.digest (Some b) (place_at c.table s)) (tame c h) (h.3 (s - c.table.stable - 1)))

pub new_sound : (h : House) → Sound (new_core h)
unfolding new_table
new_sound h = (omega arith, omega arith, omega arith, few_empty 32)
