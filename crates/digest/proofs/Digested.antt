-- The digest of a written batch.
use Rattle.std.proofs.Common.{◌≡◌, ℕ, Bool, true, false, cond, ltb, List, [], ◌∷◌, length, Ok, Err, Result, sym, refl, ap, ◌∙◌, arith}
use Rattle.std.proofs.lemmas.Bool.{cond-false, ltb-false}
use Rattle.wire.specs.declared.records.DigestValue.{DigestValue}
use Rattle.wire.specs.declared.records.Request.{Request}
use Rattle.wire.specs.declared.frame.BatchFrame.{BatchFrame}
use Rattle.wire.specs.declared.faults.WriteFault.{WriteFault}
use Rattle.wire.specs.declared.faults.WriteFault.TheVariants.{TooMany}
use Rattle.wire.specs.Frames.{buffered, write_batch, body_bytes, batch_body}
use Rattle.wire.proofs.Puts.{body_back}
use Rattle.digest.specs.Batched.{batch_digest, digest_batch}

-- what was written had at most 16 requests
written : (rs : List Request) (f : BatchFrame) → Ok f ≡ write_batch rs → (ltb 16 (length rs) ≡ false) × (f ≡ buffered rs)
written rs f e = go (ltb 16 (length rs)) refl e
  where
    go : (b : Bool) → ltb 16 (length rs) ≡ b → ◌≡◌ {A = Result BatchFrame WriteFault} (Ok f) (cond b (Err (TooMany (length rs))) (Ok (buffered rs))) → (ltb 16 (length rs) ≡ false) × (f ≡ buffered rs)
    go true h k = let z : ◌≡◌ {A = ℕ} 0 1 = cc in absurd (omega arith)
    go false h k = (h, cc)

some_digest : (value : List ℕ → DigestValue) (rs : List Request) → (length rs ≡ 0 → ⊥) → value (batch_body rs) ≡ batch_digest value rs
some_digest value [] h = absurd (h refl)
some_digest value (r ∷ rs) h = refl

pub digested : (value : List ℕ → DigestValue) (rs : List Request) (f : BatchFrame) (body : List ℕ) (d : DigestValue) → (length rs ≡ 0 → ⊥) → Ok f ≡ write_batch rs → body ≡ body_bytes f → d ≡ value body
    → Ok d ≡ digest_batch value rs
digested value rs f body d some e is was =
    let w = written rs f e in
    ap Ok (was ∙ (ap value (is ∙ (ap body_bytes w.1 ∙ body_back rs (ltb-false 16 (length rs) w.0))) ∙ some_digest value rs some))
    ∙ sym (cond-false (ltb 16 (length rs)) _ _ w.0)
