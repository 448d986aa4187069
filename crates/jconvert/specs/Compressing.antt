-- An image of the profile, compressed: what may stand for each of its nodes, and why none goes out.
use Rattle.std.specs.Prelude.{◌≡◌, ◌==◌, ◌&&◌, ◌⊎◌, ℕ, suc, ◌+◌, ◌^◌, ◌<◌, ◌≤◌, Bool, true, false, not, nat_le, nat_lt, IsTrue, IsFalse, List, [], ◌∷◌, length, Option, Some, None, Result, Ok, Err, if◌then◌else◌}
use Rattle.std.specs.Option.{option_or}
use Rattle.std.specs.Io.KnownBytes.{Appends}
use Rattle.flashbase.specs.Bytes.{pad4_of}
use Rattle.flashbase.specs.Device.{PutsPart, next_count}
use Rattle.flashbase.specs.Sinks.{SinkChange}
use Rattle.jnode.specs.Compressed.{IsWritableCompressed}
use Rattle.jnode.specs.Reading.{inode_len}
use Rattle.jnode.specs.Writing.{canonical, stored_bytes}
use Rattle.jnode.specs.declared.node.CompressedNode.{CompressedNode}
use Rattle.jnode.specs.declared.node.Fill.{Fill}
use Rattle.jnode.specs.declared.node.Fill.TheVariants.{Zero, Data}
use Rattle.jnode.specs.declared.node.InodeNode.{InodeNode}
use Rattle.jnode.specs.declared.node.NodeRef.{NodeRef}
use Rattle.jnode.specs.declared.node.Seen.{Seen}
use Rattle.jnode.specs.declared.node.Seen.TheVariants as seen
use Rattle.jnode.specs.declared.order.Endian.{Endian}
use Rattle.jcompr.specs.Zlib.{zlib_of}
use Rattle.jmount.specs.Tree.{type_bits, regular_bits}
use Rattle.jscan.specs.Image.{is_block_size, greatest_image, sightings}
use Rattle.jlog.specs.Output.{output}
use Rattle.jlog.specs.Packed.{zlib_number, IsPackedForm}
use Rattle.jexpand.specs.Expanded.{expanded_nodes}
use Rattle.jexpand.specs.Refused.{node_fault}
use Rattle.jexpand.specs.declared.fault.ConvertFault.{ConvertFault}
use Rattle.jexpand.specs.declared.fault.ConvertFault.TheVariants as fault
use Rattle.jconvert.specs.Converting.{FaultOwes, flash_fault}
use Rattle.jconvert.specs.declared.converted.Converted.{Converted}

-- ---- what may stand for a node

-- the compressed node of the same fields as an inode node, with these data
abbrev pub packed_as : InodeNode → List ℕ → CompressedNode
packed_as inode stream = record {
  ino = inode.ino;
  version = inode.version;
  mode = inode.mode;
  uid = inode.uid;
  gid = inode.gid;
  isize = inode.isize;
  atime = inode.atime;
  mtime = inode.mtime;
  ctime = inode.ctime;
  offset = inode.offset;
  dsize = inode.dsize;
  compr = zlib_number;
  «data» = stream;
}

abbrev pub is_data : Fill → Bool
is_data Zero = false
is_data (Data bytes) = true

-- whether a node has the data of a regular file, as many as its range has and at most 32 KiB
abbrev pub may_be_packed : InodeNode → Bool
may_be_packed inode = (inode.dsize == length (stored_bytes inode.fill))
    && (type_bits inode.mode == regular_bits) && is_data inode.fill
    && nat_le (length (stored_bytes inode.fill)) (2 ^ 15)

-- a stream of so many bytes makes a node of fewer words than so many bytes as they are
abbrev pub is_shorter : ℕ → ℕ → Bool
is_shorter stream plain = nat_lt (pad4_of (inode_len + stream)) (pad4_of (inode_len + plain))

-- The data of a node stay as they are: they may not be packed; or they have a stream, of at most 11
-- bytes more than they are, that makes no shorter node, or one that is not written. (A packer may
-- have another one for them.)
abbrev pub StaysPlain : InodeNode → Type 0
StaysPlain inode = IsFalse (may_be_packed inode)
    ⊎ ((stream : List ℕ)
    × (zlib_of (length (stored_bytes inode.fill)) stream ≡ Some (stored_bytes inode.fill))
    × (length stream ≤ length (stored_bytes inode.fill) + 11)
    × (IsFalse (is_shorter (length stream) (length (stored_bytes inode.fill)))
    ⊎ ¬ IsWritableCompressed (packed_as inode stream)))

-- The written forms that go out for nodes, one for each and in their order: the node's own, or that
-- of a compressed node that stands for it, of which there are so many.
abbrev pub AreFormsFor : Endian → List NodeRef → List (List ℕ) → ℕ → Type 0
AreFormsFor e [] [] changed = changed ≡ 0
AreFormsFor e [] (form ∷ forms) changed = ⊥
AreFormsFor e (node ∷ nodes) [] changed = ⊥
AreFormsFor e (node ∷ nodes) (form ∷ forms) changed =
    ((form ≡ canonical e node) × AreFormsFor e nodes forms changed)
    ⊎ (IsPackedForm e node form
    × ((fewer : ℕ) × (changed ≡ suc fewer) × AreFormsFor e nodes forms fewer))

-- An image that goes out for another: forms of all its nodes, from the start of an erased flash on,
-- so many of them packed. (Where none of the nodes is compressed the expanded ones are they.)
abbrev pub IsPackedImage : Endian → ℕ → List ℕ → List ℕ → ℕ → Type 0
IsPackedImage e size image out changed =
    (forms : List (List ℕ)) × AreFormsFor e (expanded_nodes e size image) forms changed
    × (out ≡ output e size 0 forms)

-- a beginning of one went out
abbrev pub PutsPackedPart : Endian → ℕ → List ℕ → Option (List ℕ) → Option (List ℕ) → Type 0
PutsPackedPart e size image old new =
    (out : List ℕ) × (changed : ℕ) × IsPackedImage e size image out changed × PutsPart old new out

-- ---- why none goes out

-- the number of the method of a compressed node
abbrev pub packed_number : Seen → Option ℕ
packed_number (seen.Compressed compr) = Some compr
packed_number s = None

-- rule: Compressed data: Why an image is not compressed, by the least address.
--   definitions: jconvert.Compressing.pack_fault, jconvert.Compressing.compress_fault
--   code: jconvert::compressing::judge_plain
-- why a sighted tile is refused: it is compressed already, or a block does not hold its node
abbrev pub pack_fault : Endian → ℕ → List ℕ → ℕ × Seen → Option ConvertFault
pack_fault e size image (addr, seen.Compressed compr) = Some (fault.Compressed addr compr)
pack_fault e size image s = node_fault e size image s

abbrev pub pack_fault_among : Endian → ℕ → List ℕ → List (ℕ × Seen) → Option ConvertFault
pack_fault_among e size image [] = None
pack_fault_among e size image (s ∷ ss) =
    option_or (pack_fault e size image s) (pack_fault_among e size image ss)

-- Why an image is not compressed: its sizes come first, then the node of least address that is
-- refused, then the flash, of which the nodes as they are must have room.
abbrev pub compress_fault : Endian → ℕ → List ℕ → Option ConvertFault
compress_fault e size image =
    if not (is_block_size size) then Some fault.BlockSize
    else if nat_lt greatest_image (length image) then Some fault.TooLarge
    else option_or (pack_fault_among e size image (sightings e size image))
    (flash_fault e size image)

-- ---- what goes out

-- What compressing into a sink answers: an image goes out for the one that is given, with what is
-- told of it; or that one is refused before a byte is put; or a beginning went out.
abbrev pub Compresses : Endian → ℕ → List ℕ → SinkChange → Result Converted ConvertFault → Type 0
Compresses e size image sink (Ok told) =
    (compress_fault e size image ≡ None)
    × ((out : List ℕ) × IsPackedImage e size image out told.changed × Appends sink.old sink.new out
    × (told.bytes ≡ length out))
    × (told.nodes ≡ length (expanded_nodes e size image)) × (sink.now ≡ sink.before)
Compresses e size image sink (Err f) = FaultOwes
    ((compress_fault e size image ≡ None) × PutsPackedPart e size image sink.old sink.new
    × (sink.now ≡ next_count sink.before))
    (PutsPackedPart e size image sink.old sink.new × (sink.now ≡ sink.before))
    (λ why. (compress_fault e size image ≡ Some why) × (sink.new ≡ sink.old)
    × (sink.now ≡ sink.before)) f
