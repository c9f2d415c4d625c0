-- One more word of the schedule, and one more round.
use Rattle.std.proofs.Common.{◌≡◌, ℕ, ◌+◌, ◌-◌, ◌*◌, ◌<◌, ◌≤◌, ◌⊎◌, List, [], ◌∷◌, ◌++◌, length, get_or, take, set, sym, ap, ◌∙◌, inl, inr, add-one, arith}
use Rattle.std.proofs.lemmas.List.{get_or-take, take_more_set}
use Rattle.std.proofs.lemmas.Bool.{cases_lt, lt-ltb, le-ltb, cond-true, cond-false}
use Rattle.digest.specs.declared.sha256.working.Working.{Working}
use Rattle.digest.specs.Constants.{K}
use Rattle.digest.specs.Words.{word, σ0, σ1, word_at}
use Rattle.digest.specs.Sha256.{schedule_word, schedule, round, rounds}

-- sums that wrap after each term
pub sum4 : (a b c d : ℕ) → word (word (word (a + b) + c) + d) ≡ word (a + b + c + d)
sum4 a b c d = omega arith

pub sum5 : (a b c d e : ℕ) → word (word (word (word (a + b) + c) + d) + e) ≡ word (a + b + c + d + e)
sum5 a b c d e = omega arith

pub rounds_at : {m n : ℕ} (ws : List ℕ) (v : Working) → m ≡ n → rounds m ws v ≡ rounds n ws v
rounds_at ws v e = ap (λ t. rounds t ws v) e

pub rounds_more : (t : ℕ) (ws : List ℕ) (v : Working) → rounds (t + 1) ws v ≡ round (rounds t ws v) (get_or K t 0) (get_or ws t 0)
unfolding rounds
rounds_more t ws v = rounds_at ws v (add-one t)

-- the two cases of W_t
pub word_of_block : (block ws : List ℕ) (t : ℕ) → t < 16 → schedule_word block ws t ≡ word_at block (t * 4)
unfolding schedule_word
word_of_block block ws t h = cond-true _ _ _ (lt-ltb t 16 h)

pub word_of_words : (block ws : List ℕ) (t : ℕ) → 16 ≤ t
    → schedule_word block ws t ≡ word (σ1 (get_or ws (t - 2) 0) + get_or ws (t - 7) 0 + σ0 (get_or ws (t - 15) 0) + get_or ws (t - 16) 0)
unfolding schedule_word
word_of_words block ws t h = cond-false _ _ _ (le-ltb t 16 h)

-- it looks only at the words before it
pub schedule_word_taken : (block ws : List ℕ) (t : ℕ) → schedule_word block (take t ws) t ≡ schedule_word block ws t
schedule_word_taken block ws t = go (cases_lt t 16)
  where
    go : (t < 16) ⊎ (16 ≤ t) → schedule_word block (take t ws) t ≡ schedule_word block ws t
    go (inl lt) = word_of_block block (take t ws) t lt ∙ sym (word_of_block block ws t lt)
    go (inr le) =
        let before : (k : ℕ) → 0 < k → k ≤ 16 → get_or (take t ws) (t - k) 0 ≡ get_or ws (t - k) 0 = λ k p q. get_or-take t ws (t - k) 0 (omega arith) in
        let taken = word_of_words block (take t ws) t le in
        let whole = word_of_words block ws t le in
        cc (before 2 (omega arith) (omega arith), before 7 (omega arith) (omega arith), before 15 (omega arith) (omega arith), before 16 (omega arith) (omega arith))

pub schedule_at : {m n : ℕ} (block : List ℕ) → m ≡ n → schedule m block ≡ schedule n block
schedule_at block e = ap (λ t. schedule t block) e

pub schedule_more : (t : ℕ) (block : List ℕ) → schedule (t + 1) block ≡ schedule t block ++ schedule_word block (schedule t block) t ∷ []
unfolding schedule
schedule_more t block = schedule_at block (add-one t)

-- a loop that writes one more word
pub word_written : (ws : List ℕ) (t : ℕ) (block : List ℕ) (x : ℕ) → t < length ws → take t ws ≡ schedule t block → x ≡ schedule_word block ws t
    → take (t + 1) (set ws t x) ≡ schedule (t + 1) block
word_written ws t block x h before is =
    let taken = schedule_word_taken block ws t in
    let written = take_more_set ws t x h in
    let more = schedule_more t block in
    cc
