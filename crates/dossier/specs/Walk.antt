-- The walk over a dossier: what the dossier says, or the index of the first record at fault, missing or surplus. A dossier has, in
-- this order: q stable statements, whose largest number is the base h; if h is above 0, q checkpoints for h; then for each of the
-- 32 numbers above h the held statements of those who are asked and, where one holds an epoch, q prepares for the highest.
use Rattle.std.specs.Prelude.{ℕ, zero, suc, ◌+◌, ◌-◌, ◌%◌, max, Bool, true, false, cond, not, ◌&&◌, ◌||◌, List, [], ◌∷◌, ◌++◌, length, take, drop, Some, None, Ok, Err, fold, Option, Result, ◌==◌, nat_le, nat_lt, slice_index_or}
use Rattle.wire.specs.declared.records.DigestValue.{DigestValue}
use Rattle.wire.specs.declared.records.Statement.{Statement}
use Rattle.wire.specs.declared.records.Sealed.{Sealed}
use Rattle.wire.specs.Values.{value_of, same_digest}
use Rattle.seal.specs.Records.{none, signer_of}
use Rattle.group.specs.Group.{grouped, exactly}
use Rattle.dossier.specs.declared.parts.Terms.{Terms}
use Rattle.dossier.specs.declared.parts.Claim.{Claim}
use Rattle.dossier.specs.declared.parts.Opened.{Opened}
use Rattle.dossier.specs.declared.tally.Tally.{Tally}
use Rattle.dossier.specs.declared.tally.Found.{Found}
use Rattle.wire.specs.declared.kinds.Kind.TheVariants.{Prepare, Checkpoint, Stable, Held}
use Rattle.wire.specs.Kinds.{same_kind}

-- a part of the walk and, unless it found a fault, the next
abbrev pub onward : {A B : Type 0} → Result A ℕ → (A → Result B ℕ) → Result B ℕ
onward (Ok a) f = f a
onward (Err i) f = Err i

-- a fault at a place, unless there is a value
abbrev pub or_fault : {A B : Type 0} → Option A → ℕ → (A → Result B ℕ) → Result B ℕ
or_fault (Some a) place f = f a
or_fault None place f = Err place

-- STABLE STATEMENTS AND CHECKPOINTS

-- the base: the largest stable number
abbrev pub larger : ℕ → Sealed → ℕ
larger h t = max h t.statement.number

abbrev pub largest : List Sealed → ℕ
largest ts = fold larger 0 ts

-- the mark of the checkpoints at a place: the first sets it; 0 for base 0, which has none
abbrev pub mark_at : List Sealed → ℕ → ℕ → DigestValue
mark_at rs base place = cond (base == 0) (value_of 0) (slice_index_or rs place none).statement.digest

-- HELD STATEMENTS

-- whether the signer of a stable statement owes a held statement for s: its stable number + 32 reaches s
abbrev pub asked : ℕ → Sealed → Bool
asked s t = nat_le (s - 32) t.statement.number

-- the place, among the stable statements from j on, of the last that is asked for s
abbrev pub last_asked : ℕ → ℕ → ℕ → List Sealed → ℕ
last_asked s j last [] = last
last_asked s j last (t ∷ ts) = last_asked s (j + 1) (cond (asked s t) j last) ts

-- nothing held
abbrev pub blank : Tally
blank = record { claim = record { epoch = 0; digest = value_of 0 }; clash = false }

-- one more held statement: a higher epoch begins anew, and another digest at the highest clashes
abbrev pub tallied : Tally → Statement → Tally
tallied c st =
    cond (nat_lt c.claim.epoch st.held)
    (record { claim = record { epoch = st.held; digest = st.digest }; clash = false })
    (cond (st.held == c.claim.epoch && not (same_digest st.digest c.claim.digest))
    (record { claim = c.claim; clash = true })
    c)

-- a held statement of a signer for s and the new epoch, its seal aside: it holds an epoch below the new one, or none and digest 0
abbrev pub held_fits : ℕ → ℕ → ℕ → Statement → Bool
held_fits epoch s signer st =
    (same_kind st.kind Held) && (st.signer == signer && (st.epoch == epoch && (st.number == s
    && (nat_lt st.held epoch && (not (st.held == 0) || same_digest st.digest (value_of 0))))))

module _ (accepts : Statement → ℕ → Bool) (terms : Terms) where
  -- a stable statement for the new epoch
  abbrev pub stable_fits : Sealed → Bool
  stable_fits r =
      let st = r.statement in
      (same_kind st.kind Stable) && (st.epoch == terms.epoch && (st.number % 16 == 0 && (nat_le st.number 1000000000000
      && (st.held == 0 && (same_digest st.digest (value_of 0) && accepts st r.seal)))))

  -- rs: the whole dossier, in which every part begins at a place
  module _ (rs : List Sealed) where
    -- the place after the q records from a place on, by ascending signers, that keep a rule
    abbrev pub quorum_from : (Sealed → Bool) → ℕ → Result ℕ ℕ
    quorum_from allows place = grouped signer_of allows terms.threshold.n terms.threshold.q place 0 (drop place rs)

    -- the held statement of a signer for s at a place, after a tally: the next tally, or none where the record is at fault or missing.
    -- A clash counts against the last held statement, and its seal is tried after that
    abbrev pub held_one : ℕ → ℕ → Bool → Tally → ℕ → Option Tally
    held_one s signer is_last c place =
        let r = slice_index_or rs place none in
        let after = tallied c r.statement in
        cond (nat_lt place (length rs) && (held_fits terms.epoch s signer r.statement && (not (is_last && after.clash) && accepts r.statement r.seal)))
        (Some after)
        None

    -- the held statements for s of the signers of the stable statements from j on, of which the last asked is at last
    abbrev pub helds_from : ℕ → ℕ → ℕ → Tally → ℕ → List Sealed → Result (Found Tally) ℕ
    helds_from s last j c place [] = Ok (record { value = c; next = place })
    helds_from s last j c place (t ∷ ts) =
        cond (asked s t)
        (or_fault (held_one s t.statement.signer (j == last) c place) place (λ c'. helds_from s last (j + 1) c' (place + 1) ts))
        (helds_from s last (j + 1) c place ts)

    abbrev pub helds : ℕ → ℕ → List Sealed → Result (Found Tally) ℕ
    helds s place ts = helds_from s (last_asked s 0 0 ts) 0 blank place ts

    -- THE WHOLE

    -- the claim of s from the records at a place on: held statements and, where the highest epoch is not 0, q prepares of it
    abbrev pub found : List Sealed → ℕ → ℕ → Result (Found Claim) ℕ
    found ts s place = onward (helds s place ts) (λ g.
        let claim : Claim = g.value.claim in
        cond (claim.epoch == 0)
        (Ok (record { value = claim; next = g.next }))
        (onward (quorum_from (exactly accepts Prepare claim.epoch s claim.digest) g.next) (λ p. Ok (record { value = claim; next = p }))))

    -- the claims of k numbers from s on, after those that were found
    unfoldable pub numbers : List Sealed → ℕ → ℕ → ℕ → List Claim → Result (Found (List Claim)) ℕ
    numbers ts zero s place cs = Ok (record { value = cs; next = place })
    numbers ts (suc k) s place cs = onward (found ts s place) (λ f. numbers ts k (s + 1) f.next (cs ++ f.value ∷ []))

    -- the place after q checkpoints for the base, none for base 0
    abbrev pub checkpoints : ℕ → ℕ → Result ℕ ℕ
    checkpoints base place = cond (base == 0) (Ok place) (quorum_from (exactly accepts Checkpoint 0 base (mark_at rs base place)) place)

    -- what follows the stable statements, which end at a place: nothing may come after it
    abbrev pub after_stables : ℕ → ℕ → Result Opened ℕ
    after_stables base place = onward (checkpoints base place) (λ p. onward (numbers (take terms.threshold.q rs) 32 (base + 1) p []) (λ w.
        cond (nat_lt w.next (length rs)) (Err w.next) (Ok (record { base = base; mark = mark_at rs base place; claims = w.value }))))

    abbrev pub walked : Result Opened ℕ
    walked = onward (quorum_from stable_fits 0) (λ p. after_stables (largest (take terms.threshold.q rs)) p)

-- WHAT IS CHOSEN

-- past the end of the claims
abbrev pub no_claim : Claim
no_claim = record { epoch = 0; digest = value_of 0 }

-- how many of the claims reach up to the last with an epoch above 0
abbrev pub reach : ℕ → ℕ → List Claim → ℕ
reach i last [] = last
reach i last (c ∷ cs) = reach (i + 1) (cond (nat_lt 0 c.epoch) (i + 1) last) cs

-- the largest number with a held epoch above 0, or the base
abbrev pub top : Opened → ℕ
top o = o.base + reach 0 0 o.claims

-- the digest chosen for s, or none where s is free
abbrev pub chosen : Opened → ℕ → Option DigestValue
chosen o s = cond (nat_lt o.base s && nat_le s (top o)) (Some (slice_index_or o.claims (s - o.base - 1) no_claim).digest) None

-- the checkpoints of the base, which follow the q stable statements; none for base 0
abbrev pub checkpoint_group : ℕ → List Sealed → Opened → List Sealed
checkpoint_group q rs o = cond (o.base == 0) [] (take q (drop q rs))
