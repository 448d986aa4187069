-- The texts of faults: a number and a name, and then the parts.
use Rattle.std.specs.Prelude.{ℕ, List, [], ◌∷◌, ◌++◌, Option, Some, None, codes, decimal}
use Rattle.std.specs.Io.KnownBytes.{Appends}
use Rattle.flashbase.specs.declared.source.LoadFault.{LoadFault}
use Rattle.flashbase.specs.declared.source.LoadFault.TheVariants as load
use Rattle.jscan.specs.declared.geometry.ScanFault.{ScanFault}
use Rattle.jscan.specs.declared.geometry.ScanFault.TheVariants as scan
use Rattle.jmount.specs.declared.fault.MountFault.{MountFault}
use Rattle.jmount.specs.declared.fault.MountFault.TheVariants as mount
use Rattle.jmount.specs.declared.fault.FindFault.{FindFault}
use Rattle.jmount.specs.declared.fault.FindFault.TheVariants as find
use Rattle.jscan.specs.declared.stream.StreamFault.{StreamFault}
use Rattle.jscan.specs.declared.stream.StreamFault.TheVariants as stream
use Rattle.jsteps.specs.declared.fault.OpFault.{OpFault}
use Rattle.jsteps.specs.declared.fault.OpFault.TheVariants as op
use Rattle.jlog.specs.declared.fault.SessionFault.{SessionFault}
use Rattle.jlog.specs.declared.fault.SessionFault.TheVariants as session
use Rattle.jlisting.specs.declared.fault.ListingFault.{ListingFault}
use Rattle.jlisting.specs.declared.fault.ListingFault.TheVariants as listing
use Rattle.jline.specs.Words.{hex, in_line}
use Rattle.jreport.specs.ImageFaults.{image_text}
use Rattle.jreport.specs.declared.report_fault.ReportFault.{ReportFault}
use Rattle.jreport.specs.declared.report_fault.ReportFault.TheVariants as report
use Rattle.jreport.specs.declared.faults.ProgramFault.{ProgramFault}
use Rattle.jreport.specs.declared.faults.ProgramFault.TheVariants as program

unfoldable pub load_text : LoadFault → List ℕ
load_text load.Device = codes "L1 Device"
load_text load.TooLarge = codes "L2 TooLarge"
load_text load.OutOfMemory = codes "L3 OutOfMemory"

-- at an address
abbrev pub at_text : ℕ → List ℕ
at_text addr = codes " at " ++ hex 8 addr

unfoldable pub scan_fault_text : ScanFault → List ℕ
scan_fault_text scan.BlockSize = codes "C1 BlockSize"
scan_fault_text scan.TooLarge = codes "C2 TooLarge"
scan_fault_text (scan.Incompatible addr nodetype) =
    codes "C3 Incompatible" ++ at_text addr ++ codes " type " ++ hex 4 nodetype
scan_fault_text (scan.Compressed addr compr) =
    codes "C4 Compressed" ++ at_text addr ++ codes " compr " ++ decimal compr
scan_fault_text scan.OutOfMemory = codes "C5 OutOfMemory"

unfoldable pub mount_text : MountFault → List ℕ
mount_text mount.BlockSize = codes "M1 BlockSize"
mount_text mount.TooLarge = codes "M2 TooLarge"
mount_text (mount.Incompatible addr nodetype) =
    codes "M3 Incompatible" ++ at_text addr ++ codes " type " ++ hex 4 nodetype
mount_text (mount.Compressed addr compr) =
    codes "M4 Compressed" ++ at_text addr ++ codes " compr " ++ decimal compr
mount_text (mount.Clash addr) = codes "M5 Clash" ++ at_text addr
mount_text mount.RootKind = codes "M6 RootKind"
mount_text mount.OutOfMemory = codes "M7 OutOfMemory"

unfoldable pub find_text : FindFault → List ℕ
find_text find.BadPath = codes "P3 Path BadPath"
find_text find.NotFound = codes "P3 Path NotFound"
find_text find.NotDirectory = codes "P3 Path NotDirectory"

-- why an operation is refused
unfoldable pub op_text : OpFault → List ℕ
op_text op.BadPath = codes "O1 BadPath"
op_text op.NameTooLong = codes "O2 NameTooLong"
op_text op.NotFound = codes "O3 NotFound"
op_text op.NotDirectory = codes "O4 NotDirectory"
op_text op.Exists = codes "O5 Exists"
op_text op.WrongKind = codes "O6 WrongKind"
op_text op.NotEmpty = codes "O7 NotEmpty"
op_text op.IntoItself = codes "O8 IntoItself"
op_text op.TooLarge = codes "O9 TooLarge"
op_text op.BadMode = codes "O10 BadMode"
op_text op.BadTarget = codes "O11 BadTarget"
op_text op.Exhausted = codes "O12 Exhausted"
op_text op.OutOfMemory = codes "O13 OutOfMemory"

-- why a session refuses or stopped
unfoldable pub session_text : SessionFault → List ℕ
session_text (session.Refused fault) = codes "S1 Refused " ++ op_text fault
session_text (session.Full needed free) =
    codes "S2 Full needed " ++ decimal needed ++ codes " free " ++ decimal free
session_text session.ReadOnly = codes "S3 ReadOnly"
session_text session.Sink = codes "S4 Sink"
session_text session.OutOfMemory = codes "S5 OutOfMemory"
session_text session.Broken = codes "S6 Broken"
session_text session.Geometry = codes "S7 Geometry"

-- the line of a listing
abbrev pub line_text : ℕ → List ℕ
line_text n = codes " line " ++ decimal n

-- the line of the operation, if it came to one
abbrev pub line_text_of : Option ℕ → List ℕ
line_text_of None = []
line_text_of (Some n) = line_text n

-- rule: What is printed: The texts of faults.
--   definitions: jreport.Faults.fault_text_of
--   code: jreport::faults::fault_text, jreport::faults::put_fault
--   laws: jreport::fault_examples::known_fault_texts, jreport::fault_examples::known_session_texts
unfoldable pub fault_text_of : ProgramFault → List ℕ
fault_text_of (program.Load fault) = load_text fault
fault_text_of (program.NotRead file) = load_text load.Device
fault_text_of (program.Scan fault) = scan_fault_text fault
fault_text_of (program.Mount fault) = mount_text fault
fault_text_of (program.Clash addr other) = mount_text (mount.Clash addr)
fault_text_of (program.File file) = codes "P1 File " ++ file.name.now
fault_text_of (program.Listing bad) = codes "P2 Listing" ++ line_text bad.line
fault_text_of (program.Session fault line cause) = session_text fault ++ line_text_of line
fault_text_of (program.Path fault) = find_text fault
fault_text_of program.NotRegular = codes "P4 NotRegular"
fault_text_of program.Output = codes "P5 Output"
fault_text_of program.OutOfMemory = codes "P6 OutOfMemory"
fault_text_of (program.NoSpace name) = codes "P7 NoSpace " ++ name.now
fault_text_of (program.Data addr) = codes "Z1 Data" ++ at_text addr
fault_text_of (program.TooLong addr) = codes "Z2 TooLong" ++ at_text addr
fault_text_of (program.Image fault) = image_text fault

-- the line on standard error
unfoldable pub fault_line_of : ProgramFault → List ℕ
fault_line_of fault = codes "jffs2_image: " ++ (in_line (fault_text_of fault) ++ 10 ∷ [])

-- the program's fault that a report's fault is
abbrev pub fault_of_report : ReportFault → ProgramFault
fault_of_report (report.Scan fault) = program.Scan fault
fault_of_report report.Output = program.Output

-- the program's fault that a stream's fault is
abbrev pub fault_of_stream : StreamFault → ProgramFault
fault_of_stream stream.BlockSize = program.Scan scan.BlockSize
fault_of_stream stream.Device = program.Load load.Device
fault_of_stream stream.TooLarge = program.Load load.TooLarge
fault_of_stream stream.OutOfMemory = program.Load load.OutOfMemory

-- the program's fault that a listing's fault is
abbrev pub fault_of_listing : ListingFault → ProgramFault
fault_of_listing (listing.Line bad) = program.Listing bad
fault_of_listing listing.OutOfMemory = program.OutOfMemory

-- the line of a fault went out
abbrev pub ReportsFault : Option (List ℕ) → Option (List ℕ) → Type 0
ReportsFault old new = (fault : ProgramFault) × Appends old new (fault_line_of fault)
