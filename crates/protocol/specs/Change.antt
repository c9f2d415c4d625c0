-- Give up: the epoch is left, and all that the next one must know is told. Turn: the next epoch begins where all is delivered.
use Rattle.std.specs.Prelude.{ℕ, ◌+◌, ◌^◌, Bool, true, false, cond, ◌||◌, List, [], ◌∷◌, ◌++◌, map, Some, None, Option, ◌==◌, bit_or, nat_lt}
use Rattle.wire.specs.declared.records.DigestValue.{DigestValue}
use Rattle.wire.specs.declared.records.Statement.{Statement}
use Rattle.wire.specs.declared.records.Sealed.{Sealed}
use Rattle.wire.specs.Values.{value_of}
use Rattle.table.specs.declared.records.Vote.{Vote}
use Rattle.table.specs.declared.records.Certificate.{Certificate}
use Rattle.table.specs.declared.records.Place.{Place}
use Rattle.table.specs.declared.records.Table.{Table}
use Rattle.table.specs.Ballots.{votes_of}
use Rattle.table.specs.Window.{enter_all}
use Rattle.protocol.specs.declared.records.View.{View}
use Rattle.protocol.specs.declared.records.Core.{Core}
use Rattle.protocol.specs.declared.refusal.Refusal.{Refusal}
use Rattle.protocol.specs.declared.refusal.Refusal.TheVariants.{Room, Unfinished, LastEpoch}
use Rattle.protocol.specs.Refusals.{first_of}
use Rattle.protocol.specs.Leaders.{primary, everyone}
use Rattle.protocol.specs.State.{size, own, with_view}
use Rattle.protocol.specs.Call.{Effect, Step, called, cramped, quiet}
use Rattle.wire.specs.declared.kinds.Kind.TheVariants.{Prepare, Checkpoint, Stable, Held}

-- there is no epoch after this one
abbrev pub last_epoch : ℕ → Bool
last_epoch epoch = epoch == 4294967295

-- GIVE UP

abbrev pub stable_of : ℕ → ℕ → ℕ → Statement
stable_of signer target number = record { kind = Stable; signer = signer; epoch = target; number = number; held = 0; digest = value_of 0 }

abbrev pub held_of : ℕ → ℕ → ℕ → ℕ → DigestValue → Statement
held_of signer target number epoch digest = record { kind = Held; signer = signer; epoch = target; number = number; held = epoch; digest = digest }

-- what is held of a number: its certificate's epoch and digest, or 0 and 0
abbrev pub held_for : ℕ → ℕ → ℕ → Option Certificate → Statement
held_for signer target number None = held_of signer target number 0 (value_of 0)
held_for signer target number (Some k) = held_of signer target number k.epoch k.digest

-- of the places from number s on
abbrev pub helds_from : ℕ → ℕ → ℕ → List Place → List Statement
helds_from signer target s [] = []
helds_from signer target s (p ∷ ps) = held_for signer target s p.certificate ∷ helds_from signer target (s + 1) ps

-- a vote as the statement that it was
abbrev pub as_checkpoint : ℕ → Vote → Sealed
as_checkpoint number v = record { statement = record { kind = Checkpoint; signer = v.signer; epoch = 0; number = number; held = 0; digest = v.digest }; seal = v.seal }

abbrev pub as_prepare : ℕ → ℕ → Vote → Sealed
as_prepare epoch number v = record { statement = record { kind = Prepare; signer = v.signer; epoch = epoch; number = number; held = 0; digest = v.digest }; seal = v.seal }

abbrev pub prepares_for : ℕ → Option Certificate → List Sealed
prepares_for number None = []
prepares_for number (Some k) = map (as_prepare k.epoch number) (votes_of k.prepares)

abbrev pub prepares_from : ℕ → List Place → List Sealed
prepares_from s [] = []
prepares_from s (p ∷ ps) = prepares_for s p.certificate ++ prepares_from (s + 1) ps

-- the quorum of checkpoints behind the stable number, of which there is none at 0, then each certificate's prepares
abbrev pub evidence : Table → List Sealed
evidence t = map (as_checkpoint t.stable) (votes_of t.proof) ++ prepares_from (t.stable + 1) t.places

abbrev pub given_up : View → View
given_up v = record { epoch = v.epoch + 1; changing = true; leaders = v.leaders; first = v.first; last = v.last }

abbrev pub give_up_refusal : Core → List Sealed → Option Refusal
give_up_refusal c outbox = first_of ((cramped outbox, Room) ∷ (last_epoch c.view.epoch, LastEpoch) ∷ [])

abbrev pub give_up_effect : {X : Type 0} → Core → X → Effect X
give_up_effect c x =
    let target = c.view.epoch + 1 in
    let t = c.table in
    quiet (with_view c (given_up c.view) t) x (stable_of (own c) target t.stable ∷ helds_from (own c) target (t.stable + 1) t.places) (evidence t)

abbrev pub gave_up : {X : Type 0} → Core → X → List Sealed → Step X
gave_up c x outbox = called c x outbox (give_up_refusal c outbox) (give_up_effect c x)

-- TURN

-- there is no last number, or it is not delivered yet
abbrev pub undelivered : Option ℕ → ℕ → Bool
undelivered None d = true
undelivered (Some last) d = nat_lt d last

abbrev pub turn_checks : Core → List Sealed → List (Bool × Refusal)
turn_checks c outbox =
    (cramped outbox, Room)
    ∷ (c.view.changing || undelivered c.view.last c.delivered, Unfinished)
    ∷ (last_epoch c.view.epoch, LastEpoch)
    ∷ []

abbrev pub turn_refusal : Core → List Sealed → Option Refusal
turn_refusal c outbox = first_of (turn_checks c outbox)

-- the first number after the last
abbrev pub after_last : Option ℕ → ℕ
after_last None = 1
after_last (Some last) = last + 1

-- the primary of the epoch joins the leaders
abbrev pub joined : ℕ → ℕ → ℕ → ℕ
joined n leaders epoch = bit_or leaders (2 ^ primary n epoch)

-- where all lead there is no last number, else there are 32 numbers
abbrev pub turned : ℕ → View → View
turned n v =
    let leaders = joined n v.leaders (v.epoch + 1) in
    let first = after_last v.last in
    record {
      epoch = v.epoch + 1;
      changing = false;
      leaders = leaders;
      first = first;
      last = cond (leaders == everyone n) None (Some (first + 31));
    }

-- all places are emptied but for their certificates
abbrev pub turn_effect : {X : Type 0} → Core → X → Effect X
turn_effect c x = quiet (with_view c (turned (size c) c.view) (enter_all c.table [])) x [] []

abbrev pub took_turn : {X : Type 0} → Core → X → List Sealed → Step X
took_turn c x outbox = called c x outbox (turn_refusal c outbox) (turn_effect c x)
