-- What holds of the definitions themselves: published examples of both digests, the padding's rule and the schedule's recurrence.
use Rattle.std.specs.Prelude.{◌≡◌, ℕ, ◌+◌, ◌-◌, ◌*◌, ◌%◌, ◌<◌, ◌≤◌, List, [], ◌∷◌, codes, slice_index}
use Rattle.std.specs.List.{flat_map}
use Rattle.digest.specs.Fnv.{fnv1a}
use Rattle.digest.specs.Words.{word, σ0, σ1, word_at, bytes4}
use Rattle.digest.specs.Sha256.{zeros, schedule, sha256}

-- the standard's examples of one block and of two
abbrev pub OneBlock : Type 0
OneBlock =
    sha256 (codes "abc")
    ≡ flat_map bytes4 (0xba7816bf ∷ 0x8f01cfea ∷ 0x414140de ∷ 0x5dae2223 ∷ 0xb00361a3 ∷ 0x96177a9c ∷ 0xb410ff61 ∷ 0xf20015ad ∷ [])

abbrev pub TwoBlocks : Type 0
TwoBlocks =
    sha256 (codes "abcdbcdecdefdefgefghfghighijhijkijkljklmklmnlmnomnopnopq")
    ≡ flat_map bytes4 (0x248d6a61 ∷ 0xd20638b8 ∷ 0xe5c02693 ∷ 0x0c3e6039 ∷ 0xa33ce459 ∷ 0x64ff2167 ∷ 0xf6ecedd4 ∷ 0x19db06c1 ∷ [])

-- 5.1.1: the zeros are the fewest that leave eight bytes of the last block
abbrev pub FewestZeros : Type 0
FewestZeros = (n : ℕ) → ((n + 1 + zeros n) % 64 ≡ 56) × ((k : ℕ) → (n + 1 + k) % 64 ≡ 56 → zeros n ≤ k)

-- 6.2.2, step 1, as the standard writes it
abbrev pub W : List ℕ → ℕ → ℕ
W block t = slice_index (schedule 64 block) t

abbrev pub FirstWords : Type 0
FirstWords = (block : List ℕ) (t : ℕ) → t < 16 → W block t ≡ word_at block (t * 4)

abbrev pub Recurrence : Type 0
Recurrence =
    (block : List ℕ) (t : ℕ) → 16 ≤ t → t < 64
    → W block t ≡ word (σ1 (W block (t - 2)) + W block (t - 7) + σ0 (W block (t - 15)) + W block (t - 16))

-- FNV-1a of "", "a" and "foobar", as its authors publish them
abbrev pub FnvExamples : Type 0
FnvExamples =
    (fnv1a [] ≡ 0xcbf29ce484222325) × (fnv1a (codes "a") ≡ 0xaf63dc4c8601ec8c) × (fnv1a (codes "foobar") ≡ 0x85944171f73967e8)
