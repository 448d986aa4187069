-- Each table holds the checksums of single bytes before as many bytes 0 as its place says.
use Rattle.std.proofs.Common.{◌≡◌, ℕ, zero, suc, ◌+◌, ◌*◌, ◌<◌, ◌==◌, Bool, true, false, ◌&&◌, List, [], ◌∷◌, length, get_or, replicate, slice_index, refl, sym, ap, ◌∙◌, arith}
use Rattle.std.proofs.lemmas.Bool.{and_parts, eqb-true, false≢true}
use Rattle.flashbase.specs.Crc.{push_bit, push_bits, push_byte, crc_after, crc_of}
use Rattle.flashbase.specs.declared.tables.TheConstants.{TABLES}
use Rattle.flashbase.proofs.CrcLemmas.{places_on, places_on-places_on, crc_of-one, crc_of-before_zeros}

-- the entries from place k on are the checksums of the bytes from k on
abbrev are_entries : ℕ → List ℕ → Bool
are_entries k [] = true
are_entries k (entry ∷ entries) = (entry == crc_of (k ∷ [])) && are_entries (suc k) entries

entry_at : (k i : ℕ) (entries : List ℕ) → are_entries k entries ≡ true → i < length entries → slice_index entries i ≡ crc_of ((k + i) ∷ [])
entry_at k i [] h within = absurd (omega arith)
entry_at k zero (entry ∷ entries) h within =
    let here = (and_parts (entry == crc_of (k ∷ [])) (are_entries (suc k) entries) h).0 in
    let same : k ≡ k + 0 = omega arith in
    eqb-true entry (crc_of (k ∷ [])) here ∙ ap (λ (n : ℕ). crc_of (n ∷ [])) same
entry_at k (suc i) (entry ∷ entries) h within =
    let there = (and_parts (entry == crc_of (k ∷ [])) (are_entries (suc k) entries) h).1 in
    let moved : suc k + i ≡ k + suc i = omega arith in
    entry_at (suc k) i entries there (omega arith) ∙ ap (λ (n : ℕ). crc_of (n ∷ [])) moved

-- the second table's entries are eight places on from the first's
abbrev are_next : List ℕ → List ℕ → Bool
are_next [] [] = true
are_next [] (y ∷ ys) = false
are_next (x ∷ xs) [] = false
are_next (x ∷ xs) (y ∷ ys) = (y == places_on 8 x) && are_next xs ys

next_at : (xs ys : List ℕ) (i : ℕ) → are_next xs ys ≡ true → i < length ys → slice_index ys i ≡ places_on 8 (slice_index xs i)
next_at xs [] i h within = absurd (omega arith)
next_at [] (y ∷ ys) i h within = absurd (false≢true h)
next_at (x ∷ xs) (y ∷ ys) zero h within = eqb-true y (places_on 8 x) (and_parts (y == places_on 8 x) (are_next xs ys) h).0
next_at (x ∷ xs) (y ∷ ys) (suc i) h within = next_at xs ys i (and_parts (y == places_on 8 x) (are_next xs ys) h).1 (omega arith)

-- each table is eight places on from the one before it
abbrev are_tables : List (List ℕ) → Bool
are_tables [] = true
are_tables (t ∷ []) = true
are_tables (t ∷ u ∷ ts) = (are_next t u && (length u == 256)) && are_tables (u ∷ ts)

chain_at : (ts : List (List ℕ)) (base : ℕ) → are_tables ts ≡ true
    → ((b : ℕ) → b < 256 → slice_index (get_or ts 0 []) b ≡ places_on base b)
    → (k b : ℕ) → k < length ts → b < 256 → slice_index (get_or ts k []) b ≡ places_on (base + 8 * k) b
chain_at [] base h first k b within small = absurd (omega arith)
chain_at (t ∷ []) base h first zero b within small = let none : base ≡ base + 8 * 0 = omega arith in first b small ∙ ap (λ (n : ℕ). places_on n b) none
chain_at (t ∷ []) base h first (suc k) b within small = absurd (omega arith)
chain_at (t ∷ u ∷ ts) base h first zero b within small = let none : base ≡ base + 8 * 0 = omega arith in first b small ∙ ap (λ (n : ℕ). places_on n b) none
chain_at (t ∷ u ∷ ts) base h first (suc k) b within small =
    let parts = and_parts (are_next t u && (length u == 256)) (are_tables (u ∷ ts)) h in
    let next = and_parts (are_next t u) (length u == 256) parts.0 in
    let long : length u ≡ 256 = eqb-true (length u) 256 next.1 in
    let moved : (base + 8) + 8 * k ≡ base + 8 * suc k = omega arith in
    chain_at (u ∷ ts) (base + 8) parts.1
    (λ i lt. next_at t u i next.0 (omega arith) ∙ ap (places_on 8) (first i lt) ∙ places_on-places_on base 8 i) k b (omega arith) small
    ∙ ap (λ (n : ℕ). places_on n b) moved

-- the tables are computed once, here

are_tables-TABLES : are_tables TABLES ≡ true
unfolding places_on push_bit
are_tables-TABLES = refl

are_entries-TABLES : are_entries 0 (get_or TABLES 0 []) ≡ true
unfolding crc_after push_byte push_bits push_bit
are_entries-TABLES = refl

first_at : (b : ℕ) → b < 256 → slice_index (get_or TABLES 0 []) b ≡ places_on 8 b
first_at b small =
    let same : 0 + b ≡ b = omega arith in
    entry_at 0 b (get_or TABLES 0 []) are_entries-TABLES small ∙ ap (λ (n : ℕ). crc_of (n ∷ [])) same ∙ crc_of-one b small

pub table_at : (k b : ℕ) → k < 16 → b < 256 → slice_index (get_or TABLES k []) b ≡ crc_of (b ∷ replicate k 0)
table_at k b within small = chain_at TABLES 8 are_tables-TABLES first_at k b within small ∙ sym (crc_of-before_zeros k b small)
