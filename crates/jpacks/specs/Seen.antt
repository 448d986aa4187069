-- What comes of `pack`, as its act sees it.
use Rattle.jedge.specs.Told.{Told}
use Rattle.jmakes.specs.Seen.{told_seen}
use Rattle.jpacks.specs.Packing.{packed_told}
use Rattle.jpacks.specs.declared.packing.Packed.{Packed}

abbrev pub packed_seen : Packed → Told
packed_seen packed = packed_told packed.left_out (told_seen packed.written)
