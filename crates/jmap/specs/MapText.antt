-- The text that `map` prints of an image, and what a call puts.
use Rattle.std.specs.Prelude.{◌≡◌, ℕ, ◌+◌, ◌-◌, ◌*◌, ◌/◌, ◌<◌, false, IsTrue, List, ◌++◌, length, replicate, get_or, flat_map, codes, decimal, Result, Ok, Err}
use Rattle.std.specs.Io.KnownBytes.{Appends}
use Rattle.flashbase.specs.Device.{PutsPart, next_count}
use Rattle.flashbase.specs.Lists.{below, each_below}
use Rattle.flashbase.specs.Sinks.{SinkChange}
use Rattle.jnode.specs.declared.order.Endian.{Endian}
use Rattle.jscan.specs.Counts.{extents_of_block}
use Rattle.jscan.specs.Image.{block_count, is_block_size, greatest_image}
use Rattle.jscan.specs.Scans.{IsScannable, image_extents}
use Rattle.jline.specs.Words.{hex}
use Rattle.jmap.specs.ByteKinds.{byte_kinds, tally_of}
use Rattle.jmap.specs.declared.fault.MapFault.{MapFault}
use Rattle.jmap.specs.declared.fault.MapFault.TheVariants.{BlockSize, TooLarge, Output}
use Rattle.jmap.specs.declared.kind.ByteKind.{ByteKind}
use Rattle.jmap.specs.declared.kind.ByteKind.TheVariants.{Live, Superseded, Obsolete, Damaged, Free}
use Rattle.jmap.specs.declared.tally.Tally.{Tally}

-- ---- the bar of a block

abbrev pub kind_mark : ByteKind → ℕ
kind_mark Live = 35
kind_mark Superseded = 45
kind_mark Obsolete = 111
kind_mark Damaged = 33
kind_mark Free = 46

-- the place of the last byte of the i-th fiftieth of so many bytes
abbrev pub fiftieth_end : ℕ → ℕ → ℕ
fiftieth_end size i = ((i + 1) * size - 1) / 50

abbrev pub bar_mark : ℕ → List ByteKind → ℕ → ℕ
bar_mark size kinds i = kind_mark (get_or kinds (fiftieth_end size i) Free)

-- 50 characters, each of which shows the kind of the last byte of a fiftieth
unfoldable pub bar_of : ℕ → List ByteKind → List ℕ
bar_of size kinds = each_below 50 (bar_mark size kinds)

-- ---- lines

-- a number with spaces in front, in a column of this width
abbrev pub column : ℕ → ℕ → List ℕ
column width n = replicate (width - length (decimal n)) 32 ++ decimal n

abbrev pub tally_columns : Tally → List ℕ
tally_columns t = column 11 t.live ++ column 11 t.superseded ++ column 11 t.obsolete
    ++ column 11 t.damaged ++ column 11 t.free

abbrev pub map_heading : List ℕ
map_heading =
    codes "# live  - superseded  o obsolete  ! damaged  . free\n"
    ++ codes "block  address       live superseded   obsolete    damaged       free\n"

-- the line of block k, of which this is the tally
unfoldable pub map_line : ℕ → ℕ → Tally → List ℕ → List ℕ
map_line k addr t bar = column 5 k ++ codes " " ++ hex 8 addr ++ tally_columns t ++ codes " " ++ bar
    ++ codes "\n"

abbrev pub line_of_kinds : ℕ → ℕ → List ByteKind → List ℕ
line_of_kinds size k kinds = map_line k (k * size) (tally_of kinds) (bar_of size kinds)

unfoldable pub block_map : Endian → ℕ → List ℕ → List ℕ → ℕ → List ℕ
block_map e size image kept k =
    line_of_kinds size k (byte_kinds kept (extents_of_block e size image k))

unfoldable pub map_total : Tally → List ℕ
map_total t = codes "total         " ++ tally_columns t ++ codes "\n"

-- rule: What is printed: The map of an image.
--   definitions: jmap.MapText.map_text, jmap.ByteKinds.byte_kinds, jmap.MapText.bar_of
--   code: jmap::map::put_map
--   laws: jmap::laws::tally_is_all, jmap::examples::entry_is_mapped
-- what `map` prints of an image of which the nodes at these addresses are kept
unfoldable pub map_text : Endian → ℕ → List ℕ → List ℕ → List ℕ
map_text e size image kept =
    map_heading ++ flat_map (block_map e size image kept) (below (block_count size image))
    ++ map_total (tally_of (byte_kinds kept (image_extents e size image)))

-- ---- what a call puts

-- It puts the whole text; if the sink fails, a beginning of it went out. An image that cannot be
-- scanned is refused before anything is put, its block size first. No memory is taken.
abbrev pub PutsMap : {T : Type 0} → ℕ → List ℕ → List ℕ → SinkChange → Result T MapFault → Type 0
PutsMap size image text sink (Ok _) =
    IsScannable size image × Appends sink.old sink.new text × (sink.now ≡ sink.before)
PutsMap size image text sink (Err Output) =
    IsScannable size image × PutsPart sink.old sink.new text × (sink.now ≡ next_count sink.before)
PutsMap size image text sink (Err BlockSize) =
    (is_block_size size ≡ false) × (sink.new ≡ sink.old) × (sink.now ≡ sink.before)
PutsMap size image text sink (Err TooLarge) =
    IsTrue (is_block_size size) × (greatest_image < length image) × (sink.new ≡ sink.old)
    × (sink.now ≡ sink.before)
