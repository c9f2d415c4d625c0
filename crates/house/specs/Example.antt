-- Two runs of a house of four in which controller 3 lies and the order of an honest client is delivered, so that the premises are not
-- empty, and one log is not said only of houses that never deliver, or that never change the epoch.
use Rattle.std.specs.Prelude.{◌≡◌, ℕ, zero, suc, ◌+◌, ◌<◌, ◌≤◌, Bool, true, not, List, [], ◌∷◌, replicate, ◌==◌, nat_le, refl}
use Rattle.std.proofs.Common.{lit≤, lit<}
use Rattle.wire.specs.declared.records.DigestValue.{DigestValue}
use Rattle.wire.specs.declared.records.Statement.{Statement}
use Rattle.wire.specs.declared.records.Sealed.{Sealed}
use Rattle.wire.specs.declared.records.Request.{Request}
use Rattle.wire.specs.Values.{value_of}
use Rattle.digest.specs.Batched.{batch_digest}
use Rattle.seal.specs.Records.{none}
use Rattle.quorum.specs.declared.house.House.{House}
use Rattle.quorum.specs.Sizes.{allowed, faults}
use Rattle.quorum.specs.Sets.{count}
use Rattle.dossier.specs.Laws.{stable_by, held_by}
use Rattle.house.specs.Runs.{Event, at, asks, offer, vote, supply, prove, give_up, enter, node, SealsHold, DigestsDiffer}
use Rattle.house.specs.Law.{log, upto}
use Rattle.wire.specs.declared.kinds.Kind.TheVariants.{Proposal, Prepare, Commit, New}
use Rattle.wire.specs.declared.kinds.Kind.{Kind}

-- the sum of the bytes as digest; an application that adds up payloads, from 0
abbrev pub sum_of : List ℕ → ℕ
sum_of [] = 0
sum_of (b ∷ bs) = b + sum_of bs

abbrev pub value : List ℕ → DigestValue
value bs = value_of (sum_of bs)

abbrev pub next : ℕ → ℕ → ℕ → ℕ → ℕ
next total client timestamp payload = total + payload

abbrev pub marked : ℕ → ℕ
marked total = total

-- four controllers, of which those up to 2 are honest; client 2 is honest
pub four_allowed : allowed 4 ≡ true
unfolding allowed
four_allowed = refl

abbrev pub member : (k : ℕ) → k < 4 → House
member k below = record { n = 4; own = k; sized = four_allowed; few = lit≤ tt; placed = below }

abbrev pub houses : ℕ → House
houses zero = member 0 (lit< tt)
houses (suc zero) = member 1 (lit< tt)
houses (suc (suc zero)) = member 2 (lit< tt)
houses (suc (suc (suc k))) = member 3 (lit< tt)

abbrev pub honest : ℕ → Bool
honest k = nat_le k 2

abbrev pub honest_client : ℕ → Bool
honest_client client = client == 2

-- the seal 9 is taken for good, whatever it seals
abbrev pub accepts : Statement → ℕ → Bool
accepts st seal = seal == 9

abbrev pub sealed : Statement → Sealed
sealed st = record { statement = st; seal = 9 }

-- the order, its batch, the proposal of controller 0 that carries it, and votes for it at number 1 of epoch 1
abbrev pub order : Request
order = record { client = 2; timestamp = 1; payload = 7; seal = 9 }

abbrev pub batch : List Request
batch = order ∷ []

abbrev pub said_in : ℕ → Kind → ℕ → Statement
said_in epoch kind signer = record { kind = kind; signer = signer; epoch = epoch; number = 1; held = 0; digest = batch_digest value batch }

abbrev pub said : Kind → ℕ → Statement
said kind signer = said_in 1 kind signer

abbrev pub room : List Sealed
room = replicate 400 none

abbrev pub offered_at : ℕ → Event
offered_at k = at k room (offer accepts (sealed (said Proposal 0)) batch)

-- a prepare or a commit of a signer comes to k
abbrev pub voted_in : ℕ → ℕ → Kind → ℕ → Event
voted_in epoch k kind signer = at k room (vote accepts (sealed (said_in epoch kind signer)))

abbrev pub voted_at : ℕ → Kind → ℕ → Event
voted_at k kind signer = voted_in 1 k kind signer

-- the newest first: the client asks; 0 and 1 take the proposal, prepare, and commit after the prepares of 0, 1 and the liar; 1 delivers
-- after their commits
abbrev pub ordered : List Event
ordered =
    voted_at 1 Commit 3
    ∷ voted_at 1 Commit 1
    ∷ voted_at 1 Commit 0
    ∷ voted_at 1 Prepare 3
    ∷ voted_at 1 Prepare 1
    ∷ voted_at 1 Prepare 0
    ∷ voted_at 0 Prepare 3
    ∷ voted_at 0 Prepare 1
    ∷ voted_at 0 Prepare 0
    ∷ offered_at 1
    ∷ offered_at 0
    ∷ asks 2 1 7
    ∷ []

-- then 2, which saw none of it, is given the batch with the commits
abbrev pub run : List Event
run = at 2 room (prove accepts 1 batch (sealed (said Commit 0) ∷ sealed (said Commit 1) ∷ sealed (said Commit 3) ∷ [])) ∷ ordered

-- or 0 and 1 give up epoch 1, and a dossier says what they and the liar hold: of the numbers from s on none holds anything
abbrev pub nothing_held : ℕ → ℕ → List Sealed
nothing_held zero s = []
nothing_held (suc k) s =
    sealed (held_by 0 2 s 0 (value_of 0)) ∷ sealed (held_by 1 2 s 0 (value_of 0)) ∷ sealed (held_by 3 2 s 0 (value_of 0)) ∷ nothing_held k (s + 1)

-- of number 1, 0 and 1 hold the order; the liar hides it
abbrev pub dossier : List Sealed
dossier =
    sealed (stable_by 0 2 0)
    ∷ sealed (stable_by 1 2 0)
    ∷ sealed (stable_by 3 2 0)
    ∷ sealed (held_by 0 2 1 1 (batch_digest value batch))
    ∷ sealed (held_by 1 2 1 1 (batch_digest value batch))
    ∷ sealed (held_by 3 2 1 0 (value_of 0))
    ∷ sealed (said Prepare 0)
    ∷ sealed (said Prepare 1)
    ∷ sealed (said Prepare 3)
    ∷ nothing_held 31 2

-- 2, the primary of epoch 2, leads it alone
abbrev pub begun : Statement
begun = record { kind = New; signer = 2; epoch = 2; number = 0; held = 0; digest = value_of 4 }

-- 0 and 2 enter, prepare and commit anew, and 2 delivers in epoch 2 what 1 delivered in epoch 1
abbrev pub changing_run : List Event
changing_run =
    at 2 room (supply 1 batch)
    ∷ voted_in 2 2 Commit 3
    ∷ voted_in 2 2 Commit 2
    ∷ voted_in 2 2 Commit 0
    ∷ voted_in 2 2 Prepare 3
    ∷ voted_in 2 2 Prepare 2
    ∷ voted_in 2 2 Prepare 0
    ∷ voted_in 2 0 Prepare 3
    ∷ voted_in 2 0 Prepare 2
    ∷ voted_in 2 0 Prepare 0
    ∷ at 2 room (enter accepts (sealed begun) dossier)
    ∷ at 0 room (enter accepts (sealed begun) dossier)
    ∷ at 1 room give_up
    ∷ at 0 room give_up
    ∷ ordered

-- all that one log asks for holds of both runs, and in each two controllers have delivered the order at 1
pub record PremisesHold : Type 0 where
  pub size : allowed 4 ≡ true
  pub few : count (λ k. not (honest k)) 4 ≤ faults 4
  pub members : (k : ℕ) → honest k ≡ true → ((houses k).n ≡ 4) × ((houses k).own ≡ k)
  pub seals : SealsHold value next marked 0 houses honest honest_client run
  pub digests : DigestsDiffer value honest run
  pub one_delivers : upto value next marked 0 houses 1 run ≡ 1
  pub two_delivers : upto value next marked 0 houses 2 run ≡ 1
  pub delivered : log value next marked 0 houses 1 run ≡ batch ∷ []
  pub state : (node value next marked 0 houses 2 run).app ≡ 7
  pub changing_seals : SealsHold value next marked 0 houses honest honest_client changing_run
  pub changing_digests : DigestsDiffer value honest changing_run
  pub one_delivers_first : upto value next marked 0 houses 1 changing_run ≡ 1
  pub two_delivers_later : upto value next marked 0 houses 2 changing_run ≡ 1
  pub later : (node value next marked 0 houses 2 changing_run).core.view.epoch ≡ 2
