use Rattle.std.proofs.Common.{◌≡◌, ◌+◌, ◌∷◌, ℕ, replicate, slice_index, ap, ◌∙◌, arith}
use Rattle.flashbase.specs.Crc.{crc_of}
use Rattle.flashbase.proofs.EightLemmas.{crc_of-eight}
use Rattle.flashbase.proofs.checksum.share_of_eight.Goals as goal

pub returns : goal.returns
returns c =
    let none : c.args.zeros ≡ c.args.zeros + 0 = omega arith in
    let last : c.table_entry.result ≡ crc_of (slice_index c.to_le_bytes.result 7 ∷ replicate (c.args.zeros + 0) 0) =
    c.table_entry.ensures ∙ ap (λ (n : ℕ). crc_of (slice_index c.to_le_bytes.result 7 ∷ replicate n 0)) none in
    rw (
      last,
      c.table_entry-2.ensures,
      c.table_entry-3.ensures,
      c.table_entry-4.ensures,
      c.table_entry-5.ensures,
      c.table_entry-6.ensures,
      c.table_entry-7.ensures,
      c.table_entry-8.ensures,
    )
    (crc_of-eight c.args.word c.args.zeros c.to_le_bytes.result c.to_le_bytes.ensures)
