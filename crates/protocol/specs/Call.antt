-- What a call does: an effect if no check refuses it, else nothing.
use Rattle.std.specs.Prelude.{ℕ, ◌+◌, Bool, List, [], ◌∷◌, ◌++◌, map, length, drop, Some, None, Ok, Err, Option, Result, nat_lt}
use Rattle.wire.specs.declared.records.Statement.{Statement}
use Rattle.wire.specs.declared.records.Sealed.{Sealed}
use Rattle.wire.specs.declared.records.Request.{Request}
use Rattle.protocol.specs.declared.records.Core.{Core}
use Rattle.protocol.specs.declared.records.Answer.{Answer}
use Rattle.protocol.specs.declared.refusal.Refusal.{Refusal}
use Rattle.protocol.specs.Delivery.{Flow, deliver_ready}

-- the next core and application, the statements that the call issues and those that it forwards, the batches that it delivers, in
-- order, and how many of their requests were applied and passed over
pub record Effect (X : Type 0) : Type 0 where
  pub core : Core
  pub app : X
  pub issued : List Statement
  pub forwarded : List Sealed
  pub batches : List (List Request)
  pub applied : ℕ
  pub passed : ℕ

-- the first number delivered, 0 if there is none
abbrev pub first_number : {A : Type 0} → ℕ → List A → ℕ
first_number d [] = 0
first_number d (b ∷ bs) = d + 1

abbrev pub answer_of : {X : Type 0} → Core → Effect X → Answer
answer_of before e = record {
  issued = length e.issued;
  forwarded = length e.forwarded;
  first = first_number before.delivered e.batches;
  batches = length e.batches;
  applied = e.applied;
  passed = e.passed;
}

-- what is issued has the seal 0: the host seals it
abbrev pub unsealed : Statement → Sealed
unsealed st = record { statement = st; seal = 0 }

-- the outbox gets the issued statements first, then the forwarded ones; its other places stay
abbrev pub posted : {X : Type 0} → Effect X → List Sealed
posted e = map unsealed e.issued ++ e.forwarded

abbrev pub written_over : List Sealed → List Sealed → List Sealed
written_over sent outbox = sent ++ drop (length sent) outbox

-- a call's answer or refusal, what controller, application and outbox then hold, and the batches that it delivered
pub record Step (X : Type 0) : Type 0 where
  pub result : Result Answer Refusal
  pub core : Core
  pub app : X
  pub outbox : List Sealed
  pub batches : List (List Request)
  pub issued : List Statement

-- a refusal leaves all as it was
abbrev pub called : {X : Type 0} → Core → X → List Sealed → Option Refusal → Effect X → Step X
called core app outbox (Some r) e = record { result = Err r; core = core; app = app; outbox = outbox; batches = []; issued = [] }
called core app outbox None e = record {
  result = Ok (answer_of core e);
  core = e.core;
  app = e.app;
  outbox = written_over (posted e) outbox;
  batches = e.batches;
  issued = e.issued;
}

-- all calls first ask for room for what they may issue and forward
abbrev pub cramped : List Sealed → Bool
cramped outbox = nat_lt (length outbox) 400

-- a call that delivers: what is ready is delivered after its own change
module _ {X : Type 0} (next : X → ℕ → ℕ → ℕ → X) (marked : X → ℕ) where
  abbrev pub flowed : Core → Flow X → Effect X
  flowed c f = record {
    core = record { house = c.house; view = c.view; table = c.table; delivered = f.delivered; windows = f.windows };
    app = f.app;
    issued = f.issued;
    forwarded = [];
    batches = f.batches;
    applied = f.applied;
    passed = f.passed;
  }

  abbrev pub delivering : Core → Flow X → Effect X
  delivering c f = flowed c (deliver_ready next marked 32 c f)

-- a call that delivers nothing
abbrev pub quiet : {X : Type 0} → Core → X → List Statement → List Sealed → Effect X
quiet c x issued forwarded = record { core = c; app = x; issued = issued; forwarded = forwarded; batches = []; applied = 0; passed = 0 }
