-- SHA-256 of a list of bytes, after FIPS 180-4.
use Rattle.std.specs.Prelude.{ℕ, zero, suc, ◌+◌, ◌-◌, ◌*◌, ◌/◌, ◌%◌, ◌^◌, cond, List, [], ◌∷◌, ◌++◌, length, replicate, fold, nat_lt, slice_index}
use Rattle.std.specs.Simd.{first_chunks}
use Rattle.std.specs.List.{flat_map}
use Rattle.digest.specs.declared.sha256.working.Working.{Working}
use Rattle.digest.specs.Constants.{K, initial}
use Rattle.digest.specs.Words.{word, Ch, Maj, Σ0, Σ1, σ0, σ1, word_at, bytes4, bytes8}

-- 5.1.1: the message, the bit 1, the fewest zero bits that fill the blocks, the length in bits as a number of 64 bits. The standard
-- stops below 2^64 bits, and from there on the length is taken modulo 2^64
abbrev pub zeros : ℕ → ℕ
zeros n = (119 - n % 64) % 64

abbrev pub padding : ℕ → ℕ → List ℕ
padding n bits = 128 ∷ (replicate (zeros n) 0 ++ bytes8 bits)

abbrev pub padded : List ℕ → List ℕ
padded m = m ++ padding (length m) (length m * 8 % 2 ^ 64)

-- 5.2.1: blocks of 64 bytes
abbrev pub blocks : List ℕ → List (List ℕ)
blocks p = first_chunks 64 (length p / 64) p

-- 6.2.2, step 1: W_t, below 16 a word of the block, from there on made of the words before it
unfoldable pub schedule_word : List ℕ → List ℕ → ℕ → ℕ
schedule_word block ws t =
    cond (nat_lt t 16)
    (word_at block (t * 4))
    (word (σ1 (slice_index ws (t - 2)) + slice_index ws (t - 7) + σ0 (slice_index ws (t - 15)) + slice_index ws (t - 16)))

-- the first t words of the schedule
unfoldable pub schedule : ℕ → List ℕ → List ℕ
schedule zero block = []
schedule (suc t) block = let before = schedule t block in before ++ schedule_word block before t ∷ []

-- step 3: one round, with the constant k and the word w
unfoldable pub round : Working → ℕ → ℕ → Working
round v k w =
    let t1 = word (v.h + Σ1 v.e + Ch v.e v.f v.g + k + w) in
    let t2 = word (Σ0 v.a + Maj v.a v.b v.c) in
    record { a = word (t1 + t2); b = v.a; c = v.b; d = v.c; e = word (v.d + t1); f = v.e; g = v.f; h = v.g }

-- the rounds 0 to t - 1, with the schedule ws
unfoldable pub rounds : ℕ → List ℕ → Working → Working
rounds zero ws v = v
rounds (suc t) ws v = round (rounds t ws v) (slice_index K t) (slice_index ws t)

-- step 2: a to h at the start
abbrev pub working : List ℕ → Working
working hs = record {
  a = slice_index hs 0;
  b = slice_index hs 1;
  c = slice_index hs 2;
  d = slice_index hs 3;
  e = slice_index hs 4;
  f = slice_index hs 5;
  g = slice_index hs 6;
  h = slice_index hs 7;
}

-- step 4: the next intermediate hash value
abbrev pub added : List ℕ → Working → List ℕ
added hs v =
    word (v.a + slice_index hs 0) ∷ word (v.b + slice_index hs 1) ∷ word (v.c + slice_index hs 2) ∷ word (v.d + slice_index hs 3)
    ∷ word (v.e + slice_index hs 4) ∷ word (v.f + slice_index hs 5) ∷ word (v.g + slice_index hs 6) ∷ word (v.h + slice_index hs 7) ∷ []

unfoldable pub compressed : List ℕ → List ℕ → List ℕ
compressed hs block = added hs (rounds 64 (schedule 64 block) (working hs))

-- the last intermediate hash value, and the message digest: its words' bytes
unfoldable pub sha256 : List ℕ → List ℕ
sha256 m = flat_map bytes4 (fold compressed initial (blocks (padded m)))
