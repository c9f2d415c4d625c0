-- Worked cases: n = 4, q = 3, epoch 3; stable numbers 16, 16, 0 from 0, 1, 3.
use Rattle.std.specs.Prelude.{◌≡◌, ℕ, zero, suc, ◌+◌, Bool, cond, List, [], ◌∷◌, ◌++◌, length, take, Some, None, Ok, Err, Option, Result, ◌==◌, nat_le, slice_set}
use Rattle.wire.specs.declared.records.Statement.{Statement}
use Rattle.wire.specs.declared.records.Sealed.{Sealed}
use Rattle.wire.specs.declared.records.DigestValue.{DigestValue}
use Rattle.wire.specs.Values.{value_of}
use Rattle.dossier.specs.declared.parts.Opened.{Opened}
use Rattle.dossier.specs.Walk.{walked, top, chosen}
use Rattle.wire.specs.declared.kinds.Kind.TheVariants.{Prepare, Checkpoint, Stable, Held}
use Rattle.wire.specs.declared.kinds.Kind.{Kind}

-- a genuine record has seal 5
abbrev pub fives : Statement → ℕ → Bool
fives st seal = seal == 5

abbrev pub said : Kind → ℕ → ℕ → ℕ → ℕ → ℕ → Sealed
said kind signer epoch number held digest =
    record { statement = record { kind = kind; signer = signer; epoch = epoch; number = number; held = held; digest = value_of digest }; seal = 5 }

abbrev pub forged : Sealed → Sealed
forged r = record { statement = r.statement; seal = 6 }

abbrev pub stable : ℕ → ℕ → Sealed
stable i s = said Stable i 3 s 0 0

abbrev pub checkpoint : ℕ → ℕ → ℕ → Sealed
checkpoint i s mark = said Checkpoint i 0 s 0 mark

abbrev pub held : ℕ → ℕ → ℕ → ℕ → Sealed
held i s e d = said Held i 3 s e d

abbrev pub prepare : ℕ → ℕ → ℕ → ℕ → Sealed
prepare i e s d = said Prepare i e s 0 d

-- the held statements of s: of 0 and 1 as given, and of 3, whose stable number is 0, none, up to 32
abbrev pub at_number : ℕ → ℕ → ℕ → ℕ → ℕ → List Sealed
at_number s e₀ d₀ e₁ d₁ = held 0 s e₀ d₀ ∷ held 1 s e₁ d₁ ∷ cond (nat_le s 32) (held 3 s 0 0 ∷ []) []

abbrev pub backing : ℕ → ℕ → ℕ → List Sealed
backing e s d = prepare 0 e s d ∷ prepare 1 e s d ∷ prepare 2 e s d ∷ []

abbrev pub empty_from : ℕ → ℕ → List Sealed
empty_from zero s = []
empty_from (suc k) s = at_number s 0 0 0 0 ++ empty_from k (s + 1)

abbrev pub opening : List Sealed
opening = stable 0 16 ∷ stable 1 16 ∷ stable 3 0 ∷ checkpoint 0 16 9 ∷ checkpoint 1 16 9 ∷ checkpoint 2 16 9 ∷ []

abbrev pub dossier : List Sealed
dossier = opening ++ (at_number 17 2 77 1 50 ++ (backing 2 17 77 ++ (at_number 18 0 0 0 0 ++ (at_number 19 0 0 1 90 ++ (backing 1 19 90 ++ empty_from 29 20)))))

-- 0 and 1 both claim epoch 2 at 17, with different digests
abbrev pub clashing : List Sealed
clashing = opening ++ (at_number 17 2 77 2 50 ++ (backing 2 17 77 ++ empty_from 31 18))

-- 0 and 1 name different digests for epoch 1, and 3 holds a higher one
abbrev pub topped : List Sealed
topped = opening ++ (held 0 17 1 77 ∷ held 1 17 1 50 ∷ held 3 17 2 60 ∷ (backing 2 17 60 ++ empty_from 31 18))

-- nobody has a stable number above 0 or holds anything: no checkpoints, and three held statements for each number
abbrev pub three_from : ℕ → ℕ → List Sealed
three_from zero s = []
three_from (suc k) s = held 0 s 0 0 ∷ held 1 s 0 0 ∷ held 2 s 0 0 ∷ three_from k (s + 1)

abbrev pub first_change : List Sealed
first_change = stable 0 0 ∷ stable 1 0 ∷ stable 2 0 ∷ three_from 32 1

abbrev pub judged : List Sealed → Result Opened ℕ
judged rs = walked fives (record { threshold = record { n = 4; q = 3 }; epoch = 3 }) rs

-- base, mark, top and what is chosen for 16 to 20
pub record Seen : Type 0 where
  pub base : ℕ
  pub mark : DigestValue
  pub last : ℕ
  pub choices : List (Option DigestValue)

abbrev pub seen : Result Opened ℕ → Result Seen ℕ
seen (Ok o) = Ok (record { base = o.base; mark = o.mark; last = top o; choices = chosen o 16 ∷ chosen o 17 ∷ chosen o 18 ∷ chosen o 19 ∷ chosen o 20 ∷ [] })
seen (Err i) = Err i

pub record Cases : Type 0 where
  pub records : length dossier ≡ 92
  pub accepted : seen (judged dossier) ≡ Ok (record { base = 16; mark = value_of 9; last = 19; choices = None ∷ Some (value_of 77) ∷ Some (value_of 0) ∷ Some (value_of 90) ∷ None ∷ [] })
  pub lower_clash : seen (judged topped) ≡ Ok (record { base = 16; mark = value_of 9; last = 17; choices = None ∷ Some (value_of 60) ∷ None ∷ None ∷ None ∷ [] })
  pub nothing_yet : seen (judged first_change) ≡ Ok (record { base = 0; mark = value_of 0; last = 0; choices = None ∷ None ∷ None ∷ None ∷ None ∷ [] })
  -- the list ends early, or goes on
  pub none_at_all : judged [] ≡ Err 0
  pub missing : judged (take 91 dossier) ≡ Err 91
  pub surplus : judged (dossier ++ stable 0 16 ∷ []) ≡ Err 92
  -- a seal, wherever it stands
  pub seal_first : judged (slice_set dossier 0 (forged (stable 0 16))) ≡ Err 0
  pub seal_last : judged (slice_set dossier 91 (forged (held 1 48 0 0))) ≡ Err 91
  -- signers: not below n, not ascending
  pub signer_high : judged (slice_set dossier 2 (stable 4 0)) ≡ Err 2
  pub signer_twice : judged (slice_set dossier 1 (stable 0 16)) ≡ Err 1
  -- a field that is not used; no multiple of 16; another epoch
  pub unused : judged (slice_set dossier 1 (said Stable 1 3 16 0 1)) ≡ Err 1
  pub no_multiple : judged (slice_set dossier 2 (stable 3 8)) ≡ Err 2
  pub other_epoch : judged (slice_set dossier 0 (said Stable 0 2 16 0 0)) ≡ Err 0
  -- checkpoints have one mark, which the first sets
  pub two_marks : judged (slice_set dossier 4 (checkpoint 1 16 8)) ≡ Err 4
  -- a signer left out shows as a wrong record there
  pub left_out : judged (slice_set dossier 8 (prepare 0 2 17 77)) ≡ Err 8
  -- a held epoch that is not below the new one; a digest with no epoch
  pub held_high : judged (slice_set dossier 7 (held 1 17 3 50)) ≡ Err 7
  pub held_digest : judged (slice_set dossier 8 (held 3 17 0 5)) ≡ Err 8
  -- a clash counts against the last held statement, also where that one's seal is false; a false seal before it comes first
  pub clash : judged clashing ≡ Err 8
  pub clash_forged : judged (slice_set clashing 8 (forged (held 3 17 0 0))) ≡ Err 8
  pub forged_first : judged (slice_set clashing 7 (forged (held 1 17 2 50))) ≡ Err 7
  -- prepares of another epoch or digest
  pub other_prepare : judged (slice_set dossier 10 (prepare 1 1 17 77)) ≡ Err 10
  pub other_digest : judged (slice_set dossier 11 (prepare 2 2 17 50)) ≡ Err 11
