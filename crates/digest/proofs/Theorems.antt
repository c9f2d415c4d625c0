-- The laws of specs/Laws.antt.
use Rattle.std.proofs.Common.{◌≡◌, ℕ, zero, suc, ◌+◌, ◌-◌, ◌<◌, ◌≤◌, List, [], ◌∷◌, length, get_or, refl, ap, ◌∙◌, add-zero, arith}
use Rattle.std.proofs.lemmas.List.{length_push, get_or_push, get_or_append_left}
use Rattle.digest.specs.Constants.{K, initial}
use Rattle.digest.specs.Sha256.{schedule_word, schedule, round, rounds, compressed, sha256}
use Rattle.digest.specs.Laws.{OneBlock, TwoBlocks, FewestZeros, FirstWords, Recurrence, FnvExamples, W}
use Rattle.digest.proofs.Rounds.{word_of_block, word_of_words, schedule_more}

pub fnv_examples : FnvExamples
fnv_examples = (refl, refl, refl)

pub one_block : OneBlock
unfolding K initial schedule_word schedule round rounds compressed sha256
one_block = refl

pub two_blocks : TwoBlocks
unfolding K initial schedule_word schedule round rounds compressed sha256
two_blocks = refl

pub fewest_zeros : FewestZeros
fewest_zeros n = (omega arith, λ k h. omega arith)

length-schedule : (t : ℕ) (block : List ℕ) → length (schedule t block) ≡ t
unfolding schedule
length-schedule zero block = refl
length-schedule (suc t) block = length_push (schedule t block) (schedule_word block (schedule t block) t) ∙ omega (arith, length-schedule t block)

-- a longer schedule begins as a shorter one
schedule_keeps : (n k : ℕ) (block : List ℕ) (t : ℕ) → t < n → get_or (schedule (n + k) block) t 0 ≡ get_or (schedule n block) t 0
schedule_keeps n zero block t h = ap (λ m. get_or (schedule m block) t 0) (add-zero n)
schedule_keeps n (suc k) block t h =
    let on : n + suc k ≡ n + k + 1 = omega arith in
    ap (λ m. get_or (schedule m block) t 0) on
    ∙ (ap (λ l. get_or l t 0) (schedule_more (n + k) block)
    ∙ (get_or_append_left (schedule (n + k) block) (schedule_word block (schedule (n + k) block) (n + k) ∷ []) 0 t (omega (arith, length-schedule (n + k) block))
    ∙ schedule_keeps n k block t h))

W-is : (n : ℕ) (block : List ℕ) (t : ℕ) → n ≤ 64 → t < n → W block t ≡ get_or (schedule n block) t 0
W-is n block t le lt =
    let all : 64 ≡ n + (64 - n) = omega arith in
    ap (λ m. get_or (schedule m block) t 0) all ∙ schedule_keeps n (64 - n) block t lt

W-word : (block : List ℕ) (t : ℕ) → t < 64 → W block t ≡ schedule_word block (schedule t block) t
W-word block t h =
    W-is (t + 1) block t (omega arith) (omega arith)
    ∙ (ap (λ l. get_or l t 0) (schedule_more t block) ∙ get_or_push (schedule t block) (schedule_word block (schedule t block) t) 0 t (length-schedule t block))

pub first_words : FirstWords
first_words block t h = W-word block t (omega arith) ∙ word_of_block block (schedule t block) t h

pub recurrence : Recurrence
recurrence block t from to =
    let last = W-word block t to in
    let is = word_of_words block (schedule t block) t from in
    let before : (k : ℕ) → 0 < k → k ≤ 16 → W block (t - k) ≡ get_or (schedule t block) (t - k) 0 = λ k p q. W-is t block (t - k) (omega arith) (omega arith) in
    cc (before 2 (omega arith) (omega arith), before 7 (omega arith) (omega arith), before 15 (omega arith) (omega arith), before 16 (omega arith) (omega arith))
