-- The votes of controllers for a digest.
use Rattle.std.specs.Prelude.{ℕ, ◌+◌, ◌-◌, min, Bool, true, cond, not, List, [], ◌∷◌, ◌++◌, length, take, replicate, is_some, Some, None, Option, nat_lt, slice_index_or, slice_set}
use Rattle.wire.specs.declared.records.DigestValue.{DigestValue}
use Rattle.wire.specs.Values.{same_digest}
use Rattle.group.specs.Group.{list_fault, quorum_held}
use Rattle.table.specs.declared.records.Ballot.{Ballot}
use Rattle.table.specs.declared.records.Ballots.{Ballots}
use Rattle.table.specs.declared.records.Vote.{Vote}
use Rattle.table.specs.declared.records.Votes.{Votes}

abbrev pub no_ballots : Ballots
no_ballots = record { of = replicate 16 None }

abbrev pub has_ballot : Ballots → ℕ → Bool
has_ballot b signer = is_some (slice_index_or b.of signer None)

abbrev pub with_ballot : Ballots → ℕ → Ballot → Ballots
with_ballot b signer x = record { of = slice_set b.of signer (Some x) }

-- a signer's vote, if it is for a digest
abbrev pub vote_for : DigestValue → ℕ → Option Ballot → Option Vote
vote_for d signer None = None
vote_for d signer (Some x) = cond (same_digest x.digest d) (Some (record { signer = signer; digest = x.digest; seal = x.seal })) None

-- the votes for a digest, by ascending signers, of those from a signer on
abbrev pub before : Option Vote → List Vote → List Vote
before None vs = vs
before (Some v) vs = v ∷ vs

abbrev pub backers_from : DigestValue → ℕ → List (Option Ballot) → List Vote
backers_from d signer [] = []
backers_from d signer (x ∷ xs) = before (vote_for d signer x) (backers_from d (signer + 1) xs)

abbrev pub backers : DigestValue → Ballots → List Vote
backers d b = backers_from d 0 b.of

-- a list of at most 16 votes in its record
abbrev pub no_vote : Vote
no_vote = record { signer = 0; digest = record { word = 0 }; seal = 0 }

abbrev pub listed : List Vote → Votes
listed vs = record { count = length vs; list = vs ++ replicate (16 - length vs) no_vote }

abbrev pub no_votes : Votes
no_votes = listed []

-- one vote more, where there is a place left
abbrev pub with_vote : Votes → Vote → Votes
with_vote w v = cond (nat_lt w.count 16) (record { count = w.count + 1; list = slice_set w.list w.count v }) w

abbrev pub votes_of : Votes → List Vote
votes_of v = take (min v.count 16) v.list

abbrev pub vote_signer : Vote → ℕ
vote_signer v = v.signer

-- of n controllers at least q, and just q, voted for a digest
abbrev pub backed : ℕ → ℕ → DigestValue → Ballots → Bool
backed n q d b = quorum_held vote_signer n q (backers d b)

abbrev pub just_backed : ℕ → ℕ → DigestValue → Ballots → Bool
just_backed n q d b = not (is_some (list_fault vote_signer (λ _. true) n q (backers d b)))
