-- What happens to the place of one number.
use Rattle.std.specs.Prelude.{ℕ, ◌+◌, Bool, false, cond, List, [], ◌∷◌, Some, None, Option, slice_index_or}
use Rattle.wire.specs.declared.records.DigestValue.{DigestValue}
use Rattle.wire.specs.declared.records.Batch.{Batch}
use Rattle.wire.specs.Values.{same_digest, value_of}
use Rattle.wire.specs.Frames.{stored}
use Rattle.table.specs.declared.records.Ballot.{Ballot}
use Rattle.table.specs.declared.records.Place.{Place}
use Rattle.table.specs.Ballots.{no_ballots, with_ballot, backers, listed}

abbrev pub empty_place : Place
empty_place = record { proposal = None; batch = None; prepares = no_ballots; commits = no_ballots; certificate = None }

-- what a read past the end of the places gives
abbrev pub past : Place
past = record { proposal = None; batch = None; prepares = record { of = [] }; commits = record { of = [] }; certificate = None }

-- the place is filled with a digest
abbrev pub proposes : Option DigestValue → DigestValue → Bool
proposes None d = false
proposes (Some e) d = same_digest e d

abbrev pub filled : DigestValue → Option Batch → Place → Place
filled d b p = record { proposal = Some d; batch = b; prepares = p.prepares; commits = p.commits; certificate = p.certificate }

abbrev pub supplied : Batch → Place → Place
supplied b p = record { proposal = p.proposal; batch = Some b; prepares = p.prepares; commits = p.commits; certificate = p.certificate }

abbrev pub prepared : ℕ → Ballot → Place → Place
prepared signer x p = record { proposal = p.proposal; batch = p.batch; prepares = with_ballot p.prepares signer x; commits = p.commits; certificate = p.certificate }

abbrev pub committed : ℕ → Ballot → Place → Place
committed signer x p = record { proposal = p.proposal; batch = p.batch; prepares = p.prepares; commits = with_ballot p.commits signer x; certificate = p.certificate }

-- the prepares for a digest become the certificate
abbrev pub certified : ℕ → DigestValue → Place → Place
certified epoch d p = record {
  proposal = p.proposal;
  batch = p.batch;
  prepares = p.prepares;
  commits = p.commits;
  certificate = Some (record { epoch = epoch; digest = d; prepares = listed (backers d p.prepares) });
}

-- the batch that stays where a digest is chosen: the empty one for 0, or the known one of that digest
abbrev pub kept_batch : DigestValue → Place → Option Batch
kept_batch d p = cond (same_digest d (value_of 0)) (Some (stored [])) (cond (proposes p.proposal d) p.batch None)

-- another epoch: all but the certificate goes, and a chosen digest fills the place
abbrev pub entered : Option DigestValue → Place → Place
entered None p = record { proposal = None; batch = None; prepares = no_ballots; commits = no_ballots; certificate = p.certificate }
entered (Some d) p = record { proposal = Some d; batch = kept_batch d p; prepares = no_ballots; commits = no_ballots; certificate = p.certificate }

-- each place by what is chosen for it, the first of the places by the i-th
abbrev pub all_entered : ℕ → List (Option DigestValue) → List Place → List Place
all_entered i chosen [] = []
all_entered i chosen (p ∷ ps) = entered (slice_index_or chosen i None) p ∷ all_entered (i + 1) chosen ps
