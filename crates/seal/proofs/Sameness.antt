-- The tests of sameness say that two values are equal.
use Rattle.std.proofs.Common.{◌≡◌, ℕ, true, eqb, refl, subst}
use Rattle.std.proofs.lemmas.Bool.{and_parts, and_from, eqb-true, eq-eqb}
use Rattle.wire.specs.declared.records.DigestValue.{DigestValue}
use Rattle.wire.specs.declared.records.Statement.{Statement}
use Rattle.wire.specs.Kinds.{same_kind}
use Rattle.wire.specs.Values.{same_digest}
use Rattle.wire.proofs.KindBytes.{same_kind_is, same_kind_self}
use Rattle.seal.specs.Records.{same_statement, Same}

-- equal digests are one digest
pub same_digest_is : (a b : DigestValue) → same_digest a b ≡ true → a ≡ b
unfolding same_digest
same_digest_is a b h = λ i. record { word = eqb-true a.word b.word h i }

pub same_digest_self : (a : DigestValue) → same_digest a a ≡ true
unfolding same_digest
same_digest_self a = eq-eqb a.word a.word refl

pub same_statement_is : (a b : Statement) → same_statement a b ≡ true → a ≡ b
same_statement_is a b h =
    let h1 = and_parts (same_kind a.kind b.kind) _ h in
    let h2 = and_parts (eqb a.signer b.signer) _ h1.1 in
    let h3 = and_parts (eqb a.epoch b.epoch) _ h2.1 in
    let h4 = and_parts (eqb a.number b.number) _ h3.1 in
    let h5 = and_parts (eqb a.held b.held) (same_digest a.digest b.digest) h4.1 in
    λ i. record {
      kind = same_kind_is a.kind b.kind h1.0 i;
      signer = eqb-true a.signer b.signer h2.0 i;
      epoch = eqb-true a.epoch b.epoch h3.0 i;
      number = eqb-true a.number b.number h4.0 i;
      held = eqb-true a.held b.held h5.0 i;
      digest = same_digest_is a.digest b.digest h5.1 i;
    }

eqb_self : (x : ℕ) → eqb x x ≡ true
eqb_self x = eq-eqb x x refl

pub same_statement_self : (a : Statement) → same_statement a a ≡ true
same_statement_self a =
    and_from (same_kind a.kind a.kind) _ (same_kind_self a.kind)
    (and_from (eqb a.signer a.signer) _ (eqb_self a.signer)
    (and_from (eqb a.epoch a.epoch) _ (eqb_self a.epoch)
    (and_from (eqb a.number a.number) _ (eqb_self a.number)
    (and_from (eqb a.held a.held) _ (eqb_self a.held) (same_digest_self a.digest)))))

pub same : Same
same =
    record {
      digests = λ a b. (same_digest_is a b, λ e. subst (λ (x : DigestValue). same_digest a x ≡ true) e (same_digest_self a));
      statements = λ a b. (same_statement_is a b, λ e. subst (λ (x : Statement). same_statement a x ≡ true) e (same_statement_self a));
    }
