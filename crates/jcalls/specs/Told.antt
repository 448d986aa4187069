-- What a caller is told of each fault: its number, and the address of the node with its type or the
-- number of its compression; 0 where the fault has none.
use Rattle.std.specs.Prelude.{ℕ, ◌-◌, ◌^◌, min}
use Rattle.jexpand.specs.declared.fault.ConvertFault.{ConvertFault}
use Rattle.jexpand.specs.declared.fault.ConvertFault.TheVariants as convert
use Rattle.jcollect.specs.declared.fault.CollectFault.{CollectFault}
use Rattle.jcollect.specs.declared.fault.CollectFault.TheVariants as collect
use Rattle.jcollect.specs.declared.fault.ThroughFault.{ThroughFault}
use Rattle.jcollect.specs.declared.fault.ThroughFault.TheVariants as through
use Rattle.jmount.specs.declared.fault.FindFault.{FindFault}
use Rattle.jmount.specs.declared.fault.FindFault.TheVariants as find
use Rattle.jmount.specs.declared.fault.MountFault.{MountFault}
use Rattle.jmount.specs.declared.fault.MountFault.TheVariants as mount
use Rattle.jscan.specs.declared.geometry.ScanFault.{ScanFault}
use Rattle.jscan.specs.declared.geometry.ScanFault.TheVariants as scan
use Rattle.jlisting.specs.declared.fault.ListingFault.{ListingFault}
use Rattle.jlisting.specs.declared.fault.ListingFault.TheVariants as listing
use Rattle.jlisting.specs.declared.rule.Rule.{Rule}
use Rattle.jlisting.specs.declared.rule.Rule.TheVariants as rule
use Rattle.jlog.specs.declared.fault.SessionFault.{SessionFault}
use Rattle.jlog.specs.declared.fault.SessionFault.TheVariants as session
use Rattle.jsteps.specs.declared.fault.OpFault.{OpFault}
use Rattle.jsteps.specs.declared.fault.OpFault.TheVariants as op
use Rattle.jthrough.specs.declared.fault.ViewFault.{ViewFault}
use Rattle.jthrough.specs.declared.fault.ViewFault.TheVariants as view
use Rattle.jcalls.specs.declared.told.Fault.{Fault}
use Rattle.jcalls.specs.declared.told.Told.{Told}

abbrev pub told_at : ℕ → ℕ → ℕ → Told
told_at status address detail =
    record { status = status; address = address; detail = detail }

-- a number of 32 bits, or the greatest one
abbrev pub told_number : ℕ → ℕ
told_number n = min n (2 ^ 32 - 1)

-- the same by what a call answers and by what it wrote
abbrev pub told_by : ℕ → Fault → Told
told_by status fault = told_at status fault.address fault.detail

abbrev pub mount_told : MountFault → Told
mount_told mount.BlockSize = told_at 1 0 0
mount_told mount.TooLarge = told_at 2 0 0
mount_told (mount.Incompatible addr nodetype) = told_at 3 addr nodetype
mount_told (mount.Compressed addr compr) = told_at 4 addr compr
mount_told (mount.Clash addr) = told_at 5 addr 0
mount_told mount.RootKind = told_at 6 0 0
mount_told mount.OutOfMemory = told_at 7 0 0

abbrev pub view_told : ViewFault → Told
view_told view.BlockSize = told_at 1 0 0
view_told view.TooLarge = told_at 2 0 0
view_told (view.Incompatible addr nodetype) = told_at 3 addr nodetype
view_told (view.Compressed addr compr) = told_at 4 addr compr
view_told (view.Clash addr) = told_at 5 addr 0
view_told view.RootKind = told_at 6 0 0
view_told view.OutOfMemory = told_at 7 0 0
view_told (view.Data addr) = told_at 20 addr 0
view_told (view.TooLong addr) = told_at 21 addr 0

abbrev pub collect_told : CollectFault → Told
collect_told collect.ReadOnly = told_at 22 0 0
collect_told collect.Geometry = told_at 23 0 0
collect_told (collect.TooLong addr) = told_at 21 addr 0
collect_told (collect.Full needed free) = told_at 24 0 0
collect_told collect.Sink = told_at 7 0 0
collect_told collect.OutOfMemory = told_at 7 0 0

abbrev pub through_told : ThroughFault → Told
through_told (through.Unmounted why) = view_told why
through_told (through.Uncollected fault) = collect_told fault

abbrev pub find_told : FindFault → Told
find_told find.BadPath = told_at 10 0 0
find_told find.NotFound = told_at 11 0 0
find_told find.NotDirectory = told_at 12 0 0

abbrev pub scan_told : ScanFault → Told
scan_told scan.BlockSize = told_at 1 0 0
scan_told scan.TooLarge = told_at 2 0 0
scan_told (scan.Incompatible addr nodetype) = told_at 3 addr nodetype
scan_told (scan.Compressed addr compr) = told_at 4 addr compr
scan_told scan.OutOfMemory = told_at 7 0 0

abbrev pub convert_told : ConvertFault → Told
convert_told convert.BlockSize = told_at 1 0 0
convert_told convert.TooLarge = told_at 2 0 0
convert_told (convert.Incompatible addr nodetype) = told_at 3 addr nodetype
convert_told (convert.Compressed addr compr) = told_at 4 addr compr
convert_told convert.Sink = told_at 7 0 0
convert_told convert.OutOfMemory = told_at 7 0 0
convert_told (convert.Data addr) = told_at 20 addr 0
convert_told (convert.TooLong addr) = told_at 21 addr 0
convert_told convert.ReadOnly = told_at 22 0 0
convert_told convert.Geometry = told_at 23 0 0
convert_told (convert.Full needed free) = told_at 24 0 0

-- the rule that a line of a listing breaks, by a number
abbrev pub rule_number : Rule → ℕ
rule_number rule.SpaceAtStart = 1
rule_number rule.TwoSpaces = 2
rule_number rule.SpaceAtEnd = 3
rule_number rule.CarriageReturn = 4
rule_number rule.NoOperation = 5
rule_number (rule.TooFew count) = 6
rule_number (rule.TooMany count) = 7
rule_number (rule.Word word broken) = 8

abbrev pub told_of_listing : ListingFault → Told
told_of_listing (listing.Line bad) = told_at 30 (told_number bad.line) (rule_number bad.rule)
told_of_listing listing.OutOfMemory = told_at 7 0 0

-- an operation is refused at a line: O1 to O12
abbrev pub op_told : ℕ → OpFault → Told
op_told line op.BadPath = told_at 31 line 1
op_told line op.NameTooLong = told_at 31 line 2
op_told line op.NotFound = told_at 31 line 3
op_told line op.NotDirectory = told_at 31 line 4
op_told line op.Exists = told_at 31 line 5
op_told line op.WrongKind = told_at 31 line 6
op_told line op.NotEmpty = told_at 31 line 7
op_told line op.IntoItself = told_at 31 line 8
op_told line op.TooLarge = told_at 31 line 9
op_told line op.BadMode = told_at 31 line 10
op_told line op.BadTarget = told_at 31 line 11
op_told line op.Exhausted = told_at 31 line 12
op_told line op.OutOfMemory = told_at 7 0 0

-- A session is refused, at a line if it is about one. It fails or breaks only if memory runs out.
abbrev pub session_told : ℕ → SessionFault → Told
session_told line (session.Refused why) = op_told line why
session_told line (session.Full needed free) = told_at 24 line 0
session_told line session.ReadOnly = told_at 22 0 0
session_told line session.Geometry = told_at 23 0 0
session_told line session.Sink = told_at 7 0 0
session_told line session.OutOfMemory = told_at 7 0 0
session_told line session.Broken = told_at 7 0 0
