use Rattle.std.proofs.Common.{◌≡◌, ◌<◌, ◌^◌, ℕ, List, bit_xor, take, drop, ap, ap₂, ◌∙◌, arith}
use Rattle.std.proofs.lemmas.Nat.{xor_lt}
use Rattle.std.specs.Int.{w64, from_le_bytes}
use Rattle.flashbase.proofs.EightLemmas.{crc_after-sixteen, first_half, second_half}
use Rattle.flashbase.proofs.checksum.push_sixteen.Goals as goal

pub returns : goal.returns
returns c =
    let word : ℕ = bit_xor c.from.result c.from_le_bytes.result in
    let small : word < 2 ^ 64 = xor_lt 64 c.from.result c.from_le_bytes.result (omega arith) (omega arith) in
    let bytes : List ℕ = c.args.bytes.now in
    let first : c.from_le_bytes.result ≡ from_le_bytes w64 (take 8 bytes) =
    c.from_le_bytes.ensures ∙ ap (from_le_bytes w64) (first_half bytes c.as_chunks.result.0.now c.told-bytes c.as_chunks.ensures.front) in
    let second : c.from_le_bytes-2.result ≡ from_le_bytes w64 (drop 8 bytes) =
    c.from_le_bytes-2.ensures ∙ ap (from_le_bytes w64) (second_half bytes c.as_chunks.result.0.now c.told-bytes c.as_chunks.ensures.front) in
    ap₂ bit_xor c.share_of_eight.ensures c.share_of_eight-2.ensures
    ∙ crc_after-sixteen c.args.remainder word c.from_le_bytes-2.result bytes c.told-bytes c.fits-bytes
    (ap₂ bit_xor c.from.ensures first) small second (omega arith)
