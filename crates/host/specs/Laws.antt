-- What is shown of assembly: the dossier of q true partings is accepted.
use Rattle.std.specs.Prelude.{◌≡◌, ℕ, ◌+◌, ◌-◌, ◌<◌, ◌≤◌, Bool, true, List, length, Ok, slice_index_or}
use Rattle.std.specs.List.{flat_map, AllByRecursion}
use Rattle.wire.specs.Values.{value_of}
use Rattle.wire.specs.declared.records.DigestValue.{DigestValue}
use Rattle.wire.specs.declared.records.Statement.{Statement}
use Rattle.wire.specs.declared.records.Sealed.{Sealed}
use Rattle.seal.specs.Records.{none, signer_of}
use Rattle.group.specs.Group.{grouped, exactly}
use Rattle.dossier.specs.declared.parts.Terms.{Terms}
use Rattle.dossier.specs.declared.parts.Opened.{Opened}
use Rattle.dossier.specs.Walk.{stable_fits, held_fits, walked}
use Rattle.host.specs.Partings.{one_at, first_of, stable_in, claim_in, claimed_epoch, checkpoints_in, prepares_in}
use Rattle.host.specs.Assembly.{base_in, assembled}
use Rattle.wire.specs.declared.kinds.Kind.TheVariants.{Prepare, Checkpoint}

-- exactly q records, by ascending signers below n, that keep a rule
pub record Quorum (terms : Terms) (allows : Sealed → Bool) (rs : List Sealed) : Type 0 where
  pub long : length rs ≡ terms.threshold.q
  pub stands : grouped signer_of allows terms.threshold.n terms.threshold.q 0 0 rs ≡ Ok terms.threshold.q

-- digests: the one digest that an epoch can have certified at a number
module _ (accepts : Statement → ℕ → Bool) (terms : Terms) (digests : ℕ → ℕ → DigestValue) where
  -- r is a genuine held statement of a signer for s, and its digest is the one of its epoch
  pub record Claims (signer s : ℕ) (r : Sealed) : Type 0 where
    pub fits : held_fits terms.epoch s signer r.statement ≡ true
    pub genuine : accepts r.statement r.seal ≡ true
    pub one_digest : r.statement.digest ≡ digests r.statement.held s

  -- what a controller that keeps to the rules sends on giving up; of its evidence only what is looked for in it
  pub record TrueParting (p : List Sealed) : Type 0 where
    pub there : 0 < length p
    pub reaches : (s : ℕ) → stable_in p < s → s ≤ stable_in p + 32 → s - stable_in p < length p
    pub claims : (s : ℕ) → stable_in p < s → s ≤ stable_in p + 32 → Claims (first_of p).signer s (slice_index_or p (s - stable_in p) none)
    pub checkpoints : 0 < stable_in p → Quorum terms (exactly accepts Checkpoint 0 (stable_in p) (first_of (checkpoints_in p)).digest) (checkpoints_in p)
    pub prepares : (s : ℕ) → 0 < claimed_epoch s p → Quorum terms (exactly accepts Prepare (claimed_epoch s p) s (claim_in s p).digest) (prepares_in s p)

-- true partings, whose stable statements are those of q controllers by ascending signers, give a dossier that the walk accepts,
-- with the base that was foretold
abbrev pub AssemblyAccepted : Type 0
AssemblyAccepted =
    (accepts : Statement → ℕ → Bool) (terms : Terms) (digests : ℕ → ℕ → DigestValue) (ps : List (List Sealed))
    → ((s : ℕ) → digests 0 s ≡ value_of 0)
    → Quorum terms (stable_fits accepts terms) (flat_map (one_at 0) ps)
    → AllByRecursion (TrueParting accepts terms digests) ps
    → (o : Opened) × (walked accepts terms (assembled ps) ≡ Ok o) × (o.base ≡ base_in ps)
