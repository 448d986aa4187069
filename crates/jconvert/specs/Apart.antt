-- An image decompressed without the nodes that one of a higher address clashes with.
use Rattle.std.specs.Prelude.{◌≡◌, ◌⊎◌, ℕ, IsTrue, List, map, length, filter_map, count_by, Option, Some, None, option_map, Result, Ok, Err}
use Rattle.std.specs.Io.KnownBytes.{Appends}
use Rattle.flashbase.specs.Device.{PutsPart, next_count}
use Rattle.flashbase.specs.Sinks.{SinkChange}
use Rattle.jnode.specs.Writing.{canonical}
use Rattle.jnode.specs.declared.node.NodeRef.{NodeRef}
use Rattle.jnode.specs.declared.node.Seen.{Seen}
use Rattle.jnode.specs.declared.order.Endian.{Endian}
use Rattle.jscan.specs.Image.{sightings}
use Rattle.jclash.specs.Parting.{Parts}
use Rattle.jclash.specs.declared.parting.LeftOut.{LeftOut}
use Rattle.jlog.specs.Output.{output}
use Rattle.jlog.specs.Places.{fit, end_of_all}
use Rattle.jexpand.specs.Expanded.{expanded_node}
use Rattle.jexpand.specs.declared.fault.ConvertFault.{ConvertFault}
use Rattle.jconvert.specs.Converting.{greatest_blocks, is_changed, convert_fault, FaultOwes, WriteFaultOwes}
use Rattle.jconvert.specs.declared.apart.Apart.{Apart}
use Rattle.jconvert.specs.declared.converted.Converted.{Converted}

-- the node that a sighted tile gives, with its address
abbrev pub located_node : Endian → ℕ → List ℕ → ℕ × Seen → Option (ℕ × NodeRef)
located_node e size image s = option_map (λ n. (s.0, n)) (expanded_node e size image s)

-- rule: Compressed data: The image of the nodes that stay.
--   definitions: jconvert.Apart.located_nodes, jconvert.Apart.GoesOutApart,
--   jconvert.Apart.DecompressesApart
--   code: jconvert::apart::part, jconvert::keeping::write_nodes, jconvert::apart::decompress_apart
--   laws: jconvert::laws::apart_mounts
-- The expanded nodes of an image, each with the address of its tile.
abbrev pub located_nodes : Endian → ℕ → List ℕ → List (ℕ × NodeRef)
located_nodes e size image = filter_map (located_node e size image) (sightings e size image)

-- what a log puts for nodes from the start of an erased flash on
abbrev pub image_of_nodes : Endian → ℕ → List NodeRef → List ℕ
image_of_nodes e size nodes = output e size 0 (map (canonical e) nodes)

-- the greatest flash has room for them
abbrev pub HaveRoom : Endian → ℕ → List NodeRef → Type 0
HaveRoom e size nodes = IsTrue (fit size (greatest_blocks size) 0 (map (canonical e) nodes))

-- What a call does that puts an image of nodes, and answers where it ends: all of it goes out; or a
-- beginning, where the sink failed once, or memory ran out.
abbrev pub WritesNodes : Endian → ℕ → List NodeRef → SinkChange → Result ℕ ConvertFault → Type 0
WritesNodes e size nodes sink (Ok end) =
    HaveRoom e size nodes × Appends sink.old sink.new (image_of_nodes e size nodes)
    × (end ≡ end_of_all size 0 (map (canonical e) nodes)) × (sink.now ≡ sink.before)
WritesNodes e size nodes sink (Err f) = WriteFaultOwes
    (PutsPart sink.old sink.new (image_of_nodes e size nodes)
    × (sink.now ≡ next_count sink.before))
    (PutsPart sink.old sink.new (image_of_nodes e size nodes) × (sink.now ≡ sink.before)) f

-- what goes out without the nodes that one of a higher address clashes with, and what is told of it
pub record GoesOutApart (e : Endian) (size : ℕ) (image : List ℕ) (told : Converted)
    (left : List LeftOut) (out : List ℕ) : Type 0 where
  pub stay : List NodeRef
  pub parts : Parts (located_nodes e size image) stay left
  pub room : HaveRoom e size stay
  pub out_is : out ≡ image_of_nodes e size stay
  pub changed : told.changed ≡ count_by (λ s. is_changed s.1) (sightings e size image)
  pub nodes : told.nodes ≡ length stay
  pub bytes : told.bytes ≡ length out

-- a beginning of that went out
abbrev pub PutsPartApart : Endian → ℕ → List ℕ → Option (List ℕ) → Option (List ℕ) → Type 0
PutsPartApart e size image old new = (stay : List NodeRef) × (left : List LeftOut)
    × Parts (located_nodes e size image) stay left × PutsPart old new (image_of_nodes e size stay)

-- What decompressing without nodes that clash answers, into a sink: it goes out, with what is told
-- of it; or the image is refused before a byte is put; or a beginning went out.
abbrev pub DecompressesApart : Endian → ℕ → List ℕ → SinkChange → Result Apart ConvertFault
    → Type 0
DecompressesApart e size image sink (Ok done) =
    (convert_fault e size image ≡ None)
    × ((out : List ℕ) × GoesOutApart e size image done.told done.left.items out
    × Appends sink.old sink.new out) × (sink.now ≡ sink.before)
DecompressesApart e size image sink (Err f) = FaultOwes
    ((convert_fault e size image ≡ None) × PutsPartApart e size image sink.old sink.new
    × (sink.now ≡ next_count sink.before))
    (((sink.new ≡ sink.old) ⊎ PutsPartApart e size image sink.old sink.new)
    × (sink.now ≡ sink.before))
    (λ why. (convert_fault e size image ≡ Some why) × (sink.new ≡ sink.old)
    × (sink.now ≡ sink.before)) f
