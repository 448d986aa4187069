-- What is put of a source that is read block by block.
use Rattle.std.specs.Prelude.{◌≡◌, ℕ, ◌+◌, ◌-◌, ◌*◌, ◌≤◌, List, ◌++◌, drop, Option, None, Some, Result, Ok, Err, IfSome, ⊤}
use Rattle.std.specs.Io.KnownBytes.{Appends, IsAtEnd}
use Rattle.flashbase.specs.Device.{PutsPart, next_count}
use Rattle.flashbase.specs.Sinks.{SinkChange}
use Rattle.flashbase.specs.declared.source.LoadFault.TheVariants as load
use Rattle.jnode.specs.declared.order.Endian.{Endian}
use Rattle.jscan.specs.Counts.{is_found}
use Rattle.jscan.specs.Filling.{StopsPast, StopsWithin}
use Rattle.jscan.specs.Image.{block_count, greatest_image}
use Rattle.jscan.specs.declared.geometry.ScanFault.TheVariants as scan
use Rattle.jreport.specs.Report.{lines_below, count_in_image, scan_text}
use Rattle.jreport.specs.declared.faults.ProgramFault.{ProgramFault}
use Rattle.jreport.specs.declared.faults.ProgramFault.TheVariants as program

-- There is an image of which this holds. Where the source tells what it had left, it is that.
abbrev pub OfSomeImage : Option (List ℕ) → (List ℕ → Type 0) → Type 0
OfSomeImage known_bytes P = (image : List ℕ) × IfSome known_bytes (λ bytes. image ≡ bytes) × P image

-- A call puts the report of an image that it reads block by block, and answers the number of
-- findings. Where the image is not read on, the lines of whole blocks have gone out; where the sink
-- fails, a beginning of the report.
abbrev pub PutsStream : Endian → ℕ → List ℕ → SinkChange → Result ℕ ProgramFault → Type 0
PutsStream e size image sink (Ok findings) =
    (findings ≡ count_in_image is_found e size image)
    × Appends sink.old sink.new (scan_text e size image) × (sink.now ≡ sink.before)
PutsStream e size image sink (Err program.Output) =
    PutsPart sink.old sink.new (scan_text e size image) × (sink.now ≡ next_count sink.before)
PutsStream e size image sink (Err (program.Load load.Device)) =
    (n : ℕ) × (n ≤ block_count size image) × Appends sink.old sink.new (lines_below e size image n)
    × (sink.now ≡ sink.before)
PutsStream e size image sink (Err (program.Load load.TooLarge)) =
    (n : ℕ) × (n ≤ block_count size image) × Appends sink.old sink.new (lines_below e size image n)
    × (sink.now ≡ sink.before)
PutsStream e size image sink (Err (program.Load load.OutOfMemory)) =
    (sink.new ≡ sink.old) × (sink.now ≡ sink.before)
PutsStream e size image sink (Err (program.Scan scan.BlockSize)) =
    (sink.new ≡ sink.old) × (sink.now ≡ sink.before)
PutsStream e size image sink (Err (program.Scan scan.TooLarge)) = ⊥
PutsStream e size image sink (Err (program.Scan (scan.Incompatible addr nodetype))) = ⊥
PutsStream e size image sink (Err (program.Scan (scan.Compressed addr compr))) = ⊥
PutsStream e size image sink (Err (program.Scan scan.OutOfMemory)) = ⊥
PutsStream e size image sink (Err (program.Mount fault)) = ⊥
PutsStream e size image sink (Err (program.Clash addr other)) = ⊥
PutsStream e size image sink (Err (program.File file)) = ⊥
PutsStream e size image sink (Err (program.NotRead file)) = ⊥
PutsStream e size image sink (Err (program.Listing bad)) = ⊥
PutsStream e size image sink (Err (program.Session fault line cause)) = ⊥
PutsStream e size image sink (Err (program.Path fault)) = ⊥
PutsStream e size image sink (Err program.NotRegular) = ⊥
PutsStream e size image sink (Err program.OutOfMemory) = ⊥
PutsStream e size image sink (Err (program.NoSpace name)) = ⊥
PutsStream e size image sink (Err (program.Data addr)) = ⊥
PutsStream e size image sink (Err (program.TooLong addr)) = ⊥
PutsStream e size image sink (Err (program.Image fault)) = ⊥

-- The lines of the blocks in front of the one that the source broke off have gone out, and less
-- than a block is gone past them.
abbrev pub BreaksOff : Endian → ℕ → Option (List ℕ) → Option (List ℕ) → Option (List ℕ) → List ℕ
    → Type 0
BreaksOff e size old new left image =
    (n : ℕ) × (n ≤ block_count size image) × StopsWithin (Some (drop (n * size) image)) left size
    × Appends old new (lines_below e size image n)

-- ---- the source

-- A source is handed back with the count of its failures, which rose by one where it is blamed, and
-- else stayed. It is gone exactly where nothing is read of it.
abbrev pub HandsBack : ℕ → Option ℕ → Result ℕ ProgramFault → Type 0
HandsBack before None (Err (program.Scan scan.BlockSize)) = ⊤
HandsBack before None (Err (program.Load load.OutOfMemory)) = ⊤
HandsBack before None (Ok n) = ⊥
HandsBack before None (Err (program.Scan scan.TooLarge)) = ⊥
HandsBack before None (Err (program.Scan (scan.Incompatible addr nodetype))) = ⊥
HandsBack before None (Err (program.Scan (scan.Compressed addr compr))) = ⊥
HandsBack before None (Err (program.Scan scan.OutOfMemory)) = ⊥
HandsBack before None (Err (program.Load load.Device)) = ⊥
HandsBack before None (Err (program.Load load.TooLarge)) = ⊥
HandsBack before None (Err (program.Mount fault)) = ⊥
HandsBack before None (Err (program.Clash addr other)) = ⊥
HandsBack before None (Err (program.File file)) = ⊥
HandsBack before None (Err (program.NotRead file)) = ⊥
HandsBack before None (Err (program.Listing bad)) = ⊥
HandsBack before None (Err (program.Session fault line cause)) = ⊥
HandsBack before None (Err (program.Path fault)) = ⊥
HandsBack before None (Err program.NotRegular) = ⊥
HandsBack before None (Err program.Output) = ⊥
HandsBack before None (Err program.OutOfMemory) = ⊥
HandsBack before None (Err (program.NoSpace name)) = ⊥
HandsBack before None (Err (program.Data addr)) = ⊥
HandsBack before None (Err (program.TooLong addr)) = ⊥
HandsBack before None (Err (program.Image fault)) = ⊥
HandsBack before (Some now) (Err (program.Scan scan.BlockSize)) = ⊥
HandsBack before (Some now) (Err (program.Load load.OutOfMemory)) = ⊥
HandsBack before (Some now) (Err (program.Load load.Device)) = now ≡ next_count before
HandsBack before (Some now) (Ok n) = now ≡ before
HandsBack before (Some now) (Err (program.Scan scan.TooLarge)) = now ≡ before
HandsBack before (Some now) (Err (program.Scan (scan.Incompatible addr nodetype))) = now ≡ before
HandsBack before (Some now) (Err (program.Scan (scan.Compressed addr compr))) = now ≡ before
HandsBack before (Some now) (Err (program.Scan scan.OutOfMemory)) = now ≡ before
HandsBack before (Some now) (Err (program.Load load.TooLarge)) = now ≡ before
HandsBack before (Some now) (Err (program.Mount fault)) = now ≡ before
HandsBack before (Some now) (Err (program.Clash addr other)) = now ≡ before
HandsBack before (Some now) (Err (program.File file)) = now ≡ before
HandsBack before (Some now) (Err (program.NotRead file)) = now ≡ before
HandsBack before (Some now) (Err (program.Listing bad)) = now ≡ before
HandsBack before (Some now) (Err (program.Session fault line cause)) = now ≡ before
HandsBack before (Some now) (Err (program.Path fault)) = now ≡ before
HandsBack before (Some now) (Err program.NotRegular) = now ≡ before
HandsBack before (Some now) (Err program.Output) = now ≡ before
HandsBack before (Some now) (Err program.OutOfMemory) = now ≡ before
HandsBack before (Some now) (Err (program.NoSpace name)) = now ≡ before
HandsBack before (Some now) (Err (program.Data addr)) = now ≡ before
HandsBack before (Some now) (Err (program.TooLong addr)) = now ≡ before
HandsBack before (Some now) (Err (program.Image fault)) = now ≡ before

-- What follows whole blocks is left of the source, and the lines of all of these but the last have
-- gone out.
abbrev pub StopsBehind : Endian → ℕ → Option (List ℕ) → Option (List ℕ) → Option (List ℕ) → List ℕ
    → Type 0
StopsBehind e size old new left image =
    (n : ℕ) × (n ≤ block_count size image) × (left ≡ Some (drop (n * size) image))
    × (more : List ℕ) × Appends old new (lines_below e size image (n - 1) ++ more)

-- How far the source was read, by the answer: to its end; into the block that it broke off; past
-- the greatest image, by a block at most; or, where the sink failed, through the block whose lines
-- it did not take.
abbrev pub ReadsTo : Endian → ℕ → List ℕ → Option (List ℕ) → Option (List ℕ) → Option (List ℕ)
    → Result ℕ ProgramFault → Type 0
ReadsTo e size image old new left (Ok _) = IsAtEnd left
ReadsTo e size image old new left (Err (program.Load load.Device)) =
    BreaksOff e size old new left image
ReadsTo e size image old new left (Err (program.Load load.TooLarge)) =
    StopsPast (Some image) left greatest_image (greatest_image + size)
ReadsTo e size image old new left (Err program.Output) = StopsBehind e size old new left image
ReadsTo e size image old new left (Err (program.Load load.OutOfMemory)) = ⊤
ReadsTo e size image old new left (Err (program.Scan fault)) = ⊤
ReadsTo e size image old new left (Err (program.Mount fault)) = ⊤
ReadsTo e size image old new left (Err (program.Clash addr other)) = ⊤
ReadsTo e size image old new left (Err (program.File file)) = ⊤
ReadsTo e size image old new left (Err (program.NotRead file)) = ⊤
ReadsTo e size image old new left (Err (program.Listing bad)) = ⊤
ReadsTo e size image old new left (Err (program.Session fault line cause)) = ⊤
ReadsTo e size image old new left (Err (program.Path fault)) = ⊤
ReadsTo e size image old new left (Err program.NotRegular) = ⊤
ReadsTo e size image old new left (Err program.OutOfMemory) = ⊤
ReadsTo e size image old new left (Err (program.NoSpace name)) = ⊤
ReadsTo e size image old new left (Err (program.Data addr)) = ⊤
ReadsTo e size image old new left (Err (program.TooLong addr)) = ⊤
ReadsTo e size image old new left (Err (program.Image fault)) = ⊤
