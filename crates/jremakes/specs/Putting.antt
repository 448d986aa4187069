-- An image that is put into a file, and what it comes to.
use Rattle.std.specs.Io.KnownBytes.{Appends}
use Rattle.std.specs.Prelude.{◌≡◌, ℕ, List, None, Result, Ok, Err, is_ok, length, string_bytes}
use Rattle.flashbase.specs.Sinks.{SinkChange}
use Rattle.jnode.specs.declared.node.NodeRef.{NodeRef}
use Rattle.jnode.specs.declared.order.Endian.{Endian}
use Rattle.jexpand.specs.declared.fault.ConvertFault.{ConvertFault}
use Rattle.jexpand.specs.declared.fault.ConvertFault.TheVariants as convert
use Rattle.jlog.specs.declared.fault.SessionFault.TheVariants as session
use Rattle.jconvert.specs.Apart.{HaveRoom, image_of_nodes}
use Rattle.jconvert.specs.Compressing.{IsPackedImage}
use Rattle.jreport.specs.declared.cause.Cause.TheVariants as causes
use Rattle.jreport.specs.declared.faults.ProgramFault.TheVariants as program
use Rattle.jreport.specs.declared.reason.Reason.{Reason}
use Rattle.jreport.specs.declared.reason.Reason.TheVariants as reasons
use Rattle.jedge.specs.Acts.{Act, Saying, Then, answers}
use Rattle.jedge.specs.Showing.{IsFrontOf}
use Rattle.jedge.specs.declared.fault.FailedFile.{FailedFile}
use Rattle.jedge.specs.declared.fault.Fault.{Fault}
use Rattle.jedge.specs.declared.fault.Fault.TheVariants as fault
use Rattle.jmakes.specs.Making.{FileMade, FileSaying, WantedFile, makes}
use Rattle.jmakes.specs.declared.wanted.CloseFault.{CloseFault}
use Rattle.jmakes.specs.declared.wanted.CloseFault.TheVariants as close
use Rattle.jremakes.specs.declared.remaking.Unput.{Unput}
use Rattle.jremakes.specs.declared.remaking.Unput.TheVariants as unput

-- ---- what is put

-- a call puts a text into a sink, of which this is said
pub record PutsInto {A : Type 0} (Puts : FileSaying A) (sink : SinkChange) (answer : A) : Type 0
  where
    pub text : List ℕ
    pub puts : Puts text sink.now answer
    pub put : Appends sink.old sink.new text

-- all of these bytes; or a beginning of them, where the file failed or memory ran out
abbrev pub PutsAll : {A : Type 0} → List ℕ → A → FileSaying (Result A Unput)
PutsAll whole answer text failures (Ok x) = (text ≡ whole) × (x ≡ answer) × (failures ≡ 0)
PutsAll whole answer text failures (Err unput.File) = IsFrontOf whole text × (failures ≡ 1)
PutsAll whole answer text failures (Err unput.OutOfMemory) = IsFrontOf whole text × (failures ≡ 0)

-- a beginning of an image of the same nodes, compressed
abbrev pub IsFrontOfPacked : Endian → ℕ → List ℕ → List ℕ → Type 0
IsFrontOfPacked e size image text = (whole : List ℕ) × (changed : ℕ)
    × IsPackedImage e size image whole changed × IsFrontOf whole text

-- An image of the same nodes, compressed; the answer is how many of them are, and its length. Or a
-- beginning of one.
abbrev pub PutsCompressed : Endian → ℕ → List ℕ → FileSaying (Result (ℕ × ℕ) Unput)
PutsCompressed e size image text failures (Ok done) =
    IsPackedImage e size image text done.0 × (done.1 ≡ length text) × (failures ≡ 0)
PutsCompressed e size image text failures (Err unput.File) =
    IsFrontOfPacked e size image text × (failures ≡ 1)
PutsCompressed e size image text failures (Err unput.OutOfMemory) =
    IsFrontOfPacked e size image text × (failures ≡ 0)

-- An image of these nodes, for which a flash has room; the answer is its length. Or a beginning of
-- it.
abbrev pub PutsNodes : Endian → ℕ → List NodeRef → FileSaying (Result ℕ Unput)
PutsNodes e size nodes text failures (Ok end) = HaveRoom e size nodes
    × (text ≡ image_of_nodes e size nodes) × (end ≡ length text) × (failures ≡ 0)
PutsNodes e size nodes text failures (Err unput.File) =
    IsFrontOf (image_of_nodes e size nodes) text × (failures ≡ 1)
PutsNodes e size nodes text failures (Err unput.OutOfMemory) =
    IsFrontOf (image_of_nodes e size nodes) text × (failures ≡ 0)

-- a call that puts an image failed with the file, or memory ran out
abbrev pub unput_of : ConvertFault → Unput
unput_of convert.BlockSize = unput.File
unput_of convert.TooLarge = unput.File
unput_of (convert.Incompatible addr nodetype) = unput.File
unput_of (convert.Compressed addr compr) = unput.File
unput_of (convert.Data addr) = unput.File
unput_of (convert.TooLong addr) = unput.File
unput_of convert.ReadOnly = unput.File
unput_of convert.Geometry = unput.File
unput_of (convert.Full needed free) = unput.File
unput_of convert.Sink = unput.File
unput_of convert.OutOfMemory = unput.OutOfMemory

-- ---- what it comes to

-- a file is not written: the host's reason, or memory ran out
abbrev pub unwritten_by : Reason → Fault
unwritten_by reason = fault.Refused (program.Session session.Sink None (causes.Host reason))

abbrev pub unwritten_for_memory : Fault
unwritten_for_memory = fault.Refused (program.Session session.OutOfMemory None causes.Unknown)

-- the file of this name failed, for this reason
abbrev pub IsFailedFile : List ℕ → Reason → Fault → Type 0
IsFailedFile name reason f = (file : FailedFile) × (f ≡ fault.File file)
    × (string_bytes file.name ≡ name) × (file.reason ≡ reason)

-- the file of this name did not get its bytes, or not its name
abbrev pub IsEndFault : List ℕ → CloseFault → Fault → Type 0
IsEndFault name (close.NotWritten reason) f = f ≡ unwritten_by reason
IsEndFault name (close.NotNamed reason) f = IsFailedFile name reason f

-- why a file ended badly that failed when bytes were put into it
abbrev pub end_reason : Result Unit CloseFault → Reason
end_reason (Ok _) = reasons.Other
end_reason (Err (close.NotWritten reason)) = reason
end_reason (Err (close.NotNamed reason)) = reason

-- The answer, where the file ended well. Else memory that ran out comes first, then the host's
-- reason.
abbrev pub ComesTo : {A : Type 0} → List ℕ → Result A Unput → Result Unit CloseFault
    → Result A Fault → Type 0
ComesTo name (Ok x) (Ok _) result = result ≡ Ok x
ComesTo name (Ok x) (Err why) (Ok y) = ⊥
ComesTo name (Ok x) (Err why) (Err f) = IsEndFault name why f
ComesTo name (Err unput.File) closed result = result ≡ Err (unwritten_by (end_reason closed))
ComesTo name (Err unput.OutOfMemory) closed result = result ≡ Err unwritten_for_memory

abbrev pub IsRemade : {A : Type 0} → List ℕ → FileMade (Result A Unput) → Result A Fault → Type 0
IsRemade name made result = ComesTo name made.answer made.closed result

-- There is memory for what is wanted when the file is there: its name, and the line that is
-- printed.
abbrev pub TakesMemory : Result Unit Fault → Type 0
TakesMemory (Ok _) = Unit {0}
TakesMemory (Err f) = f ≡ fault.OutOfMemory

-- an image goes to the file that is wanted
abbrev pub remakes : {A : Type 0} → WantedFile → FileSaying (Result A Unput) → Act A
remakes file Puts = Then (makes file Puts is_ok) (λ made. answers (IsRemade file.name made))

-- ---- the line on it

-- all of this line, and then this answer; or a beginning of it, where standard output failed
abbrev pub TellsLine : {A : Type 0} → List ℕ → A → Saying A
TellsLine line answer text (Ok x) = (text ≡ line) × (x ≡ answer)
TellsLine line answer text (Err (fault.File file)) = ⊥
TellsLine line answer text (Err (fault.NotRead file)) = ⊥
TellsLine line answer text (Err (fault.NoNodes of others)) = ⊥
TellsLine line answer text (Err (fault.NoSpace folder)) = ⊥
TellsLine line answer text (Err (fault.Findings of findings)) = ⊥
TellsLine line answer text (Err (fault.Refused why)) = ⊥
TellsLine line answer text (Err fault.Output) = IsFrontOf line text
TellsLine line answer text (Err fault.OutOfMemory) = ⊥
