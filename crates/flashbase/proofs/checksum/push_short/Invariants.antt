use Rattle.std.proofs.Common.{◌≡◌, ◌*◌, take}
use Rattle.flashbase.specs.Crc.{crc_after}
use Rattle.flashbase.proofs.checksum.push_short.Given as goal

abbrev pub invariant-loop-chunk : goal.invariant-loop-chunk
invariant-loop-chunk l = l.remainder ≡ crc_after l.fn.start (take (l.chunk-index * 8) l.bytes)
