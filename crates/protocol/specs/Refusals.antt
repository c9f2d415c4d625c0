-- The refusals' numbers, and the first refusal that applies.
use Rattle.std.specs.Prelude.{◌≡◌, ℕ, Bool, true, false, cond, List, [], ◌∷◌, ◌++◌, codes, Some, None, Ok, Err, Option, Result}
use Rattle.std.specs.Fmt.{decimal}
use Rattle.protocol.specs.declared.refusal.Refusal.{Refusal}
use Rattle.protocol.specs.declared.refusal.Refusal.TheVariants.{House, Room, Frame, Signer, Kind, Epoch, Number, Authority, Seal, Standing, Unproposed, Batch, Request, Record, Unfinished, LastEpoch}

abbrev pub refusal_number : Refusal → ℕ
refusal_number House = 1
refusal_number Room = 2
refusal_number (Frame f) = 3
refusal_number Signer = 4
refusal_number Kind = 5
refusal_number Epoch = 6
refusal_number Number = 7
refusal_number Authority = 8
refusal_number Seal = 9
refusal_number Standing = 10
refusal_number Unproposed = 11
refusal_number Batch = 12
refusal_number (Request i) = 13
refusal_number (Record i) = 14
refusal_number Unfinished = 15
refusal_number LastEpoch = 16

-- a refusal as text: its number, and the place in a frame or the index that it is at
abbrev pub refusal_text : Refusal → List ℕ
refusal_text (Frame f) = decimal 3 ++ (codes " place " ++ decimal f.place)
refusal_text (Request i) = decimal 13 ++ (codes " at " ++ decimal i)
refusal_text (Record i) = decimal 14 ++ (codes " at " ++ decimal i)
refusal_text r = decimal (refusal_number r)

-- checks in their order: the first that applies refuses
abbrev pub first_of : List (Bool × Refusal) → Option Refusal
first_of [] = None
first_of (c ∷ cs) = cond c.0 (Some c.1) (first_of cs)

-- checks, and then others
abbrev pub or_else : Option Refusal → Option Refusal → Option Refusal
or_else (Some r) next = Some r
or_else None next = next

-- the index of what is at fault refuses
abbrev pub at_request : Option ℕ → Option Refusal
at_request None = None
at_request (Some i) = Some (Request i)

abbrev pub at_record : Option ℕ → Option Refusal
at_record None = None
at_record (Some i) = Some (Record i)

-- a value, unless there is a refusal
abbrev pub ok_unless : {A : Type 0} → A → Option Refusal → Result A Refusal
ok_unless a None = Ok a
ok_unless a (Some r) = Err r

-- one check: where it applies it refuses, and then only
abbrev pub Refuses : {A : Type 0} → Bool → Refusal → Result A Refusal → Type 0
Refuses b r (Ok a) = b ≡ false
Refuses b r (Err e) = (b ≡ true) × (e ≡ r)
