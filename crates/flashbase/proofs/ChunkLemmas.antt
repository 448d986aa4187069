-- A slice taken in chunks.
use Rattle.std.proofs.Common.{◌≡◌, ℕ, zero, suc, ◌+◌, ◌*◌, ◌<◌, List, [], take, drop, get_or, ◌++◌, sym, ap, ap₂, ◌∙◌, arith, drop-drop}
use Rattle.std.proofs.Math.Seq.{take-add}
use Rattle.std.proofs.lemmas.List.{take-append-drop, replicate-append-replicate}
use Rattle.std.specs.Simd.{first_chunks}
use Rattle.flashbase.specs.Bytes.{erased}
use Rattle.flashbase.specs.Crc.{crc_after}
use Rattle.flashbase.proofs.CrcLemmas.{crc_goes_on}

-- the chunk at place k
pub chunk_at : (n count k : ℕ) (xs : List ℕ) → k < count → get_or (first_chunks n count xs) k [] ≡ take n (drop (k * n) xs)
chunk_at n zero k xs h = absurd (omega arith)
chunk_at n (suc count) zero xs h = let none : 0 ≡ 0 * n = omega arith in ap (λ (i : ℕ). take n (drop i xs)) none
chunk_at n (suc count) (suc k) xs h =
    let moved : n + k * n ≡ suc k * n = omega arith in
    chunk_at n count k (drop n xs) (omega arith) ∙ ap (take n) (drop-drop (k * n) n xs ∙ ap (λ (i : ℕ). drop i xs) moved)

-- one more chunk taken in
pub crc_after-chunk : (n start k count sum : ℕ) (bytes : List ℕ) → k < count → sum ≡ crc_after start (take (k * n) bytes)
    → crc_after sum (get_or (first_chunks n count bytes) k []) ≡ crc_after start (take ((k + 1) * n) bytes)
crc_after-chunk n start k count sum bytes within so_far =
    let more : k * n + n ≡ (k + 1) * n = grind arith in
    rw (chunk_at n count k bytes within, so_far)
    (crc_goes_on start (take (k * n) bytes) (take n (drop (k * n) bytes))
    ∙ ap (crc_after start) (sym (take-add (k * n) n bytes) ∙ ap (λ (m : ℕ). take m bytes) more))

-- the bytes after the chunks
pub crc_after-rest : (start n sum : ℕ) (bytes : List ℕ) → sum ≡ crc_after start (take n bytes) → crc_after sum (drop n bytes) ≡ crc_after start bytes
crc_after-rest start n sum bytes so_far =
    rw so_far (crc_goes_on start (take n bytes) (drop n bytes) ∙ ap (crc_after start) (take-append-drop n bytes))

-- one more chunk that is erased
pub erased-chunk : (n k count : ℕ) (bytes : List ℕ) → k < count → take (k * n) bytes ≡ erased (k * n) → get_or (first_chunks n count bytes) k [] ≡ erased n
    → take ((k + 1) * n) bytes ≡ erased ((k + 1) * n)
erased-chunk n k count bytes within so_far chunk =
    let more : (k + 1) * n ≡ k * n + n = grind arith in
    rw more
    (take-add (k * n) n bytes
    ∙ ap₂ (λ (a b : List ℕ). a ++ b) so_far (sym (chunk_at n count k bytes within) ∙ chunk)
    ∙ replicate-append-replicate (k * n) n 0xFF)
