-- Two rules done wrong, each in a small case where a committed digest is lost.
use Rattle.std.specs.Prelude.{◌≡◌, ℕ, ◌+◌, Bool, cond, ◌&&◌, ◌||◌, List, [], ◌∷◌, fold, ◌==◌, nat_le, nat_lt, slice_index_or}
use Rattle.wire.specs.declared.records.DigestValue.{DigestValue}
use Rattle.wire.specs.declared.records.Statement.{Statement}
use Rattle.wire.specs.Values.{value_of, same_digest}
use Rattle.quorum.specs.Sizes.{quorum}
use Rattle.quorum.specs.Sets.{count}
use Rattle.dossier.specs.Walk.{tallied, blank}
use Rattle.dossier.specs.Laws.{held_by}
use Rattle.house.specs.Example.{honest}

-- THE CHOICE: of four controllers 1, 2 and the liar 3 have committed 22 at number 5 in epoch 2. In epoch 1, 0 had a certificate for 11 there.
-- A dossier for epoch 3 has the held statements of 0, 2 and 3, and the liar claims what 0 holds
abbrev pub committers : ℕ → Bool
committers i = nat_le 1 i

abbrev pub signers : ℕ → Bool
signers i = i == 0 || (i == 2 || i == 3)

abbrev pub claims : List Statement
claims = held_by 0 3 5 1 (value_of 11) ∷ held_by 2 3 5 2 (value_of 22) ∷ held_by 3 3 5 1 (value_of 11) ∷ []

-- the digest that most claims name, the earlier one where two are named as often
abbrev pub named : DigestValue → List Statement → ℕ
named d [] = 0
named d (st ∷ sts) = cond (same_digest st.digest d) 1 0 + named d sts

abbrev pub more_often : List Statement → DigestValue → Statement → DigestValue
more_often all d st = cond (nat_lt (named d all) (named st.digest all)) st.digest d

abbrev pub most_frequent : List Statement → DigestValue
most_frequent sts = fold (more_often sts) (value_of 0) sts

abbrev pub first_claimed : List Statement → DigestValue
first_claimed sts = (slice_index_or sts 0 (held_by 0 0 0 0 (value_of 0))).digest

-- THE COUNT: two groups of q − 1
abbrev pub left : ℕ → Bool
left i = nat_le i 1

abbrev pub right : ℕ → Bool
right i = nat_le 2 i

pub record BlundersShow : Type 0 where
  -- a quorum committed, a quorum signed the dossier, and just one honest controller is in both: 2
  pub committed : count committers 4 ≡ quorum 4
  pub signed : count signers 4 ≡ quorum 4
  pub shared : count (λ i. committers i && (signers i && honest i)) 4 ≡ 1
  -- the highest claim is what was committed; the most frequent and the first are not
  pub highest_keeps : (fold tallied blank claims).claim.digest ≡ value_of 22
  pub most_frequent_loses : most_frequent claims ≡ value_of 11
  pub first_loses : first_claimed claims ≡ value_of 11
  -- two groups of one less than a quorum need share nobody
  pub left_short : count left 4 + 1 ≡ quorum 4
  pub right_short : count right 4 + 1 ≡ quorum 4
  pub apart : count (λ i. left i && right i) 4 ≡ 0
