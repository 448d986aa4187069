use Rattle.std.proofs.Common.{◌<◌, ◌^◌, ℕ, bit_xor, ap, ap₂, ◌∙◌, arith, append-nil}
use Rattle.std.proofs.lemmas.Nat.{xor_lt}
use Rattle.std.specs.Int.{w64, to_le_bytes}
use Rattle.flashbase.specs.Crc.{crc_of}
use Rattle.flashbase.proofs.EightLemmas.{crc_of-word}
use Rattle.flashbase.proofs.checksum.push_eight.Goals as goal

pub returns : goal.returns
returns c =
    let word : ℕ = bit_xor c.from.result c.from_le_bytes.result in
    let small : word < 2 ^ 64 = xor_lt 64 c.from.result c.from_le_bytes.result (omega arith) (omega arith) in
    c.share_of_eight.ensures ∙ ap crc_of (append-nil (to_le_bytes w64 word))
    ∙ crc_of-word c.args.remainder word c.args.bytes.now c.told-bytes c.fits-bytes (ap₂ bit_xor c.from.ensures c.from_le_bytes.ensures) small
