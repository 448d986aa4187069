-- Files of the host that were read.
use Rattle.std.specs.Prelude.{◌≡◌, ℕ, ◌<◌, ◌≤◌, List, [], ◌++◌, length, bytes_eq, option_map, Option, Some, IfSome, Result, Ok, Err, if◌then◌else◌}
use Rattle.std.specs.Option.{option_map_or}
use Rattle.flashbase.specs.declared.source.LoadFault.{LoadFault}
use Rattle.flashbase.specs.declared.source.LoadFault.TheVariants.{Device, TooLarge, OutOfMemory}
use Rattle.jbuild.specs.NamedSpans.{span_of}
use Rattle.jbuild.specs.Spans.{bytes_of_span}
use Rattle.jbuild.specs.declared.host_files.HostFiles.{HostFiles}

-- the bytes of the file of a name, if it was read
abbrev pub read_of : HostFiles → List ℕ → Option (List ℕ)
read_of parts name = option_map (bytes_of_span parts.bytes.items) (span_of parts.files name)

-- the same, where one that was not read has no bytes
abbrev pub part_contents : HostFiles → List ℕ → List ℕ
part_contents parts name = option_map_or (λ bytes. bytes) (read_of parts name) []

-- the same files were read
abbrev pub AreSame : HostFiles → HostFiles → Type 0
AreSame old new = (name : List ℕ) → read_of new name ≡ read_of old name

-- a source that tells what it has left has more than this
abbrev pub IsLonger : Option (List ℕ) → ℕ → Type 0
IsLonger rest limit = IfSome rest (λ known. limit < length known)

-- One more file was read, or one anew: all that a source had left, where it tells that, and at most
-- so many bytes. At a fault nothing changed; a source is refused as too large only where it is.
abbrev pub ReadsPart : {T : Type 0} → Option (List ℕ) → ℕ → List ℕ → HostFiles → HostFiles
    → Result T LoadFault → Type 0
ReadsPart rest limit name old new (Ok _) = (bytes : List ℕ) × IfSome rest (λ known. bytes ≡ known)
    × (length bytes ≤ limit)
    × ((n : List ℕ) → read_of new n ≡ (if bytes_eq name n then Some bytes else read_of old n))
ReadsPart rest limit name old new (Err Device) = AreSame old new
ReadsPart rest limit name old new (Err TooLarge) = AreSame old new × IsLonger rest limit
ReadsPart rest limit name old new (Err OutOfMemory) = AreSame old new

-- ---- bytes that are read behind others

-- all that a source had left stands behind those that were there; at a fault some bytes do
abbrev pub ReadsMore : {T : Type 0} → Option (List ℕ) → ℕ → List ℕ → List ℕ
    → Result T LoadFault → Type 0
ReadsMore rest limit old new (Ok _) = (more : List ℕ) × (new ≡ old ++ more)
    × IfSome rest (λ known. more ≡ known) × (length more ≤ limit)
ReadsMore rest limit old new (Err Device) = (more : List ℕ) × (new ≡ old ++ more)
ReadsMore rest limit old new (Err TooLarge) = (more : List ℕ) × (new ≡ old ++ more)
    × IsLonger rest limit
ReadsMore rest limit old new (Err OutOfMemory) = (more : List ℕ) × (new ≡ old ++ more)

-- the same, where at a fault the bytes are as they were
abbrev pub ReadsBehind : {T : Type 0} → Option (List ℕ) → ℕ → List ℕ → List ℕ
    → Result T LoadFault → Type 0
ReadsBehind rest limit old new (Ok _) = (more : List ℕ) × (new ≡ old ++ more)
    × IfSome rest (λ known. more ≡ known) × (length more ≤ limit)
ReadsBehind rest limit old new (Err Device) = new ≡ old
ReadsBehind rest limit old new (Err TooLarge) = (new ≡ old) × IsLonger rest limit
ReadsBehind rest limit old new (Err OutOfMemory) = new ≡ old
