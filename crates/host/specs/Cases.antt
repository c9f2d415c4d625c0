-- Worked cases.
use Rattle.std.specs.Prelude.{◌≡◌, ℕ, cond, List, [], ◌∷◌, ◌++◌, map, length, take, Some, None, Ok, Err, ◌==◌}
use Rattle.std.specs.List.{range_with_len, flat_map}
use Rattle.wire.specs.Values.{value_of}
use Rattle.wire.specs.declared.records.DigestValue.{DigestValue}
use Rattle.wire.specs.declared.records.Statement.{Statement}
use Rattle.wire.specs.declared.records.Sealed.{Sealed}
use Rattle.dossier.specs.declared.parts.Terms.{Terms}
use Rattle.dossier.specs.Walk.{stable_fits}
use Rattle.dossier.specs.Cases.{fives, stable, checkpoint, held, prepare, backing, dossier, first_change, judged, seen}
use Rattle.host.specs.Keys.{tag_of}
use Rattle.host.specs.Partings.{one_at}
use Rattle.host.specs.Assembly.{base_in, assembled}
use Rattle.host.specs.Laws.{Quorum, TrueParting}
use Rattle.wire.specs.declared.kinds.Kind.TheVariants.{Request}

-- PARTINGS, by controller i with seal 5, for epoch 3

-- nothing held for k numbers from s on
abbrev pub nothing_held : ℕ → ℕ → ℕ → List Sealed
nothing_held i s k = map (λ s'. held i s' 0 0) (range_with_len s k)

abbrev pub checkpoints_16 : List Sealed
checkpoints_16 = checkpoint 0 16 9 ∷ checkpoint 1 16 9 ∷ checkpoint 2 16 9 ∷ []

-- 0 holds (2, 77) at 17; 1 holds (1, 50) at 17 and (1, 90) at 19; 3 fell behind and holds nothing
abbrev pub parting_0 : List Sealed
parting_0 = stable 0 16 ∷ held 0 17 2 77 ∷ (nothing_held 0 18 31 ++ (checkpoints_16 ++ backing 2 17 77))

abbrev pub parting_1 : List Sealed
parting_1 =
    stable 1 16 ∷ held 1 17 1 50 ∷ held 1 18 0 0 ∷ held 1 19 1 90
    ∷ (nothing_held 1 20 29 ++ (checkpoints_16 ++ (backing 1 17 50 ++ backing 1 19 90)))

abbrev pub parting_3 : List Sealed
parting_3 = stable 3 0 ∷ nothing_held 3 1 32

-- nothing happened yet
abbrev pub early : ℕ → List Sealed
early i = stable i 0 ∷ nothing_held i 1 32

-- the base is above the largest number
abbrev pub too_high : Sealed
too_high = stable 0 1000000000016

-- the prepare by 2 in epoch 3 for 17 with digest 77, and the order 77 of client 2 with timestamp 17
abbrev pub a_prepare : Statement
a_prepare = (prepare 2 3 17 77).statement

abbrev pub an_order : Statement
an_order = record { kind = Request; signer = 2; epoch = 0; number = 17; held = 0; digest = value_of 77 }

pub record Cases : Type 0 where
  -- the three partings give the worked dossier of 92 records, and the walk accepts it
  pub base : base_in (parting_0 ∷ parting_1 ∷ parting_3 ∷ []) ≡ 16
  pub whole : assembled (parting_0 ∷ parting_1 ∷ parting_3 ∷ []) ≡ dossier
  pub records : length (assembled (parting_0 ∷ parting_1 ∷ parting_3 ∷ [])) ≡ 92
  pub accepted : seen (judged (assembled (parting_0 ∷ parting_1 ∷ parting_3 ∷ []))) ≡ Ok (record { base = 16; mark = value_of 9; last = 19; choices = None ∷ Some (value_of 77) ∷ Some (value_of 0) ∷ Some (value_of 90) ∷ None ∷ [] })
  -- without a checkpoint or a held epoch there is no evidence
  pub first : assembled (early 0 ∷ early 1 ∷ early 2 ∷ []) ≡ first_change
  -- a parting that stops short leaves out what it does not have, and the walk sees it
  pub short : judged (assembled (take 1 parting_0 ∷ parting_1 ∷ parting_3 ∷ [])) ≡ Err 3
  -- partings with nothing in them, and a base that no walk accepts
  pub nobody : assembled [] ≡ []
  pub silent : assembled ([] ∷ [] ∷ []) ≡ []
  pub far : assembled ((too_high ∷ nothing_held 0 1000000000017 32) ∷ []) ≡ too_high ∷ []
  -- exercise seals: the same number for a controller and for a client is another party, and another secret has other seals
  pub prepare_tag : tag_of 7 a_prepare ≡ 13046260713141280059
  pub order_tag : tag_of 7 an_order ≡ 6539430585011204544
  pub other_secret : tag_of 8 a_prepare ≡ 2664447614134547075

-- THE PREMISES OF ACCEPTANCE

abbrev pub in_epoch_3 : Terms
in_epoch_3 = record { threshold = record { n = 4; q = 3 }; epoch = 3 }

-- what was certified: 77 in epoch 2, and in epoch 1 50 at 17 and else 90
abbrev pub certified : ℕ → ℕ → DigestValue
certified epoch s = value_of (cond (epoch == 2) 77 (cond (epoch == 1) (cond (s == 17) 50 90) 0))

-- they hold of the worked partings
pub record Premises : Type 0 where
  pub no_epoch : (s : ℕ) → certified 0 s ≡ value_of 0
  pub stables : Quorum in_epoch_3 (stable_fits fives in_epoch_3) (flat_map (one_at 0) (parting_0 ∷ parting_1 ∷ parting_3 ∷ []))
  pub first : TrueParting fives in_epoch_3 certified parting_0
  pub second : TrueParting fives in_epoch_3 certified parting_1
  pub third : TrueParting fives in_epoch_3 certified parting_3
