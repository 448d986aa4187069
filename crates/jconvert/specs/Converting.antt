-- An image decompressed: which image goes out, and why none does.
use Rattle.std.specs.Prelude.{◌≡◌, ℕ, ◌/◌, ◌+◌, ◌<◌, Bool, true, false, not, nat_lt, IsTrue, List, map, length, count_by, Option, Some, None, Result, Ok, Err, if◌then◌else◌}
use Rattle.std.specs.Option.{option_or}
use Rattle.std.specs.Io.KnownBytes.{Appends}
use Rattle.flashbase.specs.Device.{PutsPart, next_count}
use Rattle.flashbase.specs.Sinks.{SinkChange}
use Rattle.jnode.specs.Writing.{canonical}
use Rattle.jnode.specs.declared.order.Endian.{Endian}
use Rattle.jnode.specs.declared.node.Seen.{Seen}
use Rattle.jnode.specs.declared.node.Seen.TheVariants as seen
use Rattle.jscan.specs.Image.{is_block_size, greatest_image, sightings}
use Rattle.jscan.specs.Scans.{is_read_only}
use Rattle.jlog.specs.Places.{fit, needed, free}
use Rattle.jlog.specs.Output.{output}
use Rattle.jexpand.specs.Expanded.{expanded_nodes}
use Rattle.jexpand.specs.Refused.{nodes_fault}
use Rattle.jexpand.specs.declared.fault.ConvertFault.{ConvertFault}
use Rattle.jexpand.specs.declared.fault.ConvertFault.TheVariants as fault
use Rattle.jconvert.specs.declared.converted.Converted.{Converted}

-- ---- what goes out

-- the written forms of the expanded nodes, in the order of their addresses
abbrev pub expanded_forms : Endian → ℕ → List ℕ → List (List ℕ)
expanded_forms e size image = map (canonical e) (expanded_nodes e size image)

-- rule: Compressed data: The image that goes out for it, and its counts.
--   definitions: jconvert.Converting.converted_image, jconvert.Converting.converted_of,
--   jconvert.Converting.Decompresses, jconvert.Converting.Converts
--   code: jconvert::writing::write_converted, jconvert::writing::decompress,
--   jconvert::writing::decompressed
--   laws: jconvert::laws::converted_mounts
-- The image of them: what a log puts for these nodes from the start of an erased flash on.
abbrev pub converted_image : Endian → ℕ → List ℕ → List ℕ
converted_image e size image = output e size 0 (expanded_forms e size image)

-- a node whose data were compressed
abbrev pub is_changed : Seen → Bool
is_changed (seen.Compressed compr) = true
is_changed _ = false

-- what is told of it: the nodes that were decompressed, all nodes, and the bytes
abbrev pub converted_of : Endian → ℕ → List ℕ → Converted
converted_of e size image = record {
  changed = count_by (λ s. is_changed s.1) (sightings e size image);
  nodes = length (expanded_nodes e size image);
  bytes = length (converted_image e size image);
}

-- ---- why none does

-- the least size of a block that is written
abbrev pub least_written : ℕ
least_written = 8192

-- how many blocks of this size the greatest flash has
abbrev pub greatest_blocks : ℕ → ℕ
greatest_blocks size = greatest_image / size

-- whether a flash of these blocks may be written, and has room for the nodes
abbrev pub flash_fault : Endian → ℕ → List ℕ → Option ConvertFault
flash_fault e size image =
    let forms = expanded_forms e size image in
    if is_read_only e size image then Some fault.ReadOnly
    else if nat_lt size least_written then Some fault.Geometry
    else if fit size (greatest_blocks size) 0 forms then None
    else Some (fault.Full (needed forms) (free size (greatest_blocks size) 0))

-- Why an image is not decompressed: its sizes come first, then the node of least address that is
-- not expanded, then the flash that is to be written.
abbrev pub convert_fault : Endian → ℕ → List ℕ → Option ConvertFault
convert_fault e size image =
    if not (is_block_size size) then Some fault.BlockSize
    else if nat_lt greatest_image (length image) then Some fault.TooLarge
    else option_or (nodes_fault e size image) (flash_fault e size image)

-- What is owed of a fault: of the sink's, of want of memory, and of one that refuses the image.
abbrev pub FaultOwes : Type 0 → Type 0 → (ConvertFault → Type 0) → ConvertFault → Type 0
FaultOwes sink memory refused fault.Sink = sink
FaultOwes sink memory refused fault.OutOfMemory = memory
FaultOwes sink memory refused fault.BlockSize = refused fault.BlockSize
FaultOwes sink memory refused fault.TooLarge = refused fault.TooLarge
FaultOwes sink memory refused (fault.Incompatible addr nodetype) =
    refused (fault.Incompatible addr nodetype)
FaultOwes sink memory refused (fault.Compressed addr compr) = refused (fault.Compressed addr compr)
FaultOwes sink memory refused (fault.Data addr) = refused (fault.Data addr)
FaultOwes sink memory refused (fault.TooLong addr) = refused (fault.TooLong addr)
FaultOwes sink memory refused fault.ReadOnly = refused fault.ReadOnly
FaultOwes sink memory refused fault.Geometry = refused fault.Geometry
FaultOwes sink memory refused (fault.Full needed free) = refused (fault.Full needed free)

-- the same, where nothing refuses the image
abbrev pub WriteFaultOwes : Type 0 → Type 0 → ConvertFault → Type 0
WriteFaultOwes sink memory f = FaultOwes sink memory (λ _. ⊥) f

-- The answer: the image that goes out, or why none does. Only memory may be wanting at any time.
abbrev pub Converts : Endian → ℕ → List ℕ → Result (List ℕ) ConvertFault → Type 0
Converts e size image (Ok bytes) =
    (convert_fault e size image ≡ None) × (bytes ≡ converted_image e size image)
Converts e size image (Err f) =
    FaultOwes ⊥ (Unit {0}) (λ why. convert_fault e size image ≡ Some why) f

-- What a call that writes the image does to a sink: all of it goes out, or a beginning, where the
-- sink failed once or memory ran out. Nothing else is refused.
abbrev pub WritesConverted : {T : Type 0} → Endian → ℕ → List ℕ → SinkChange
    → Result T ConvertFault → Type 0
WritesConverted e size image sink (Ok _) =
    Appends sink.old sink.new (converted_image e size image) × (sink.now ≡ sink.before)
WritesConverted e size image sink (Err f) = WriteFaultOwes
    (PutsPart sink.old sink.new (converted_image e size image)
    × (sink.now ≡ next_count sink.before))
    (PutsPart sink.old sink.new (converted_image e size image) × (sink.now ≡ sink.before)) f

-- What decompressing into a sink answers: the image goes out, with what is told of it; or it is
-- refused before a byte is put; or a beginning went out. The sink comes back in any case.
abbrev pub Decompresses : Endian → ℕ → List ℕ → SinkChange → Result Converted ConvertFault
    → Type 0
Decompresses e size image sink (Ok told) =
    (convert_fault e size image ≡ None) × (told ≡ converted_of e size image)
    × Appends sink.old sink.new (converted_image e size image) × (sink.now ≡ sink.before)
Decompresses e size image sink (Err f) = FaultOwes
    ((convert_fault e size image ≡ None)
    × PutsPart sink.old sink.new (converted_image e size image)
    × (sink.now ≡ next_count sink.before))
    (PutsPart sink.old sink.new (converted_image e size image) × (sink.now ≡ sink.before))
    (λ why. (convert_fault e size image ≡ Some why) × (sink.new ≡ sink.old)
    × (sink.now ≡ sink.before)) f
