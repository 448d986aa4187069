-- What a person may do about a fault: a sentence for each whose line says no more than its name.
use Rattle.std.specs.Prelude.{ℕ, List, ◌++◌, codes}
use Rattle.flashbase.specs.declared.source.LoadFault.{LoadFault}
use Rattle.flashbase.specs.declared.source.LoadFault.TheVariants as load
use Rattle.jmount.specs.declared.fault.FindFault.{FindFault}
use Rattle.jmount.specs.declared.fault.FindFault.TheVariants as find
use Rattle.jsteps.specs.declared.fault.OpFault.{OpFault}
use Rattle.jsteps.specs.declared.fault.OpFault.TheVariants as op
use Rattle.jlog.specs.declared.fault.SessionFault.{SessionFault}
use Rattle.jlog.specs.declared.fault.SessionFault.TheVariants as session
use Rattle.jreport.specs.Causes.{cause_note}
use Rattle.jreport.specs.declared.cause.Cause.{Cause}

-- there is no memory
unfoldable pub memory_note : List ℕ
memory_note = codes "memory ran out; free some, or raise its limit"

-- ---- files and images

-- a file is not read, or too long
unfoldable pub load_note : LoadFault → List ℕ
load_note load.Device = codes "a file was not read to its end"
load_note load.TooLarge =
    codes "a file, and all files that a listing or a folder has, are at most 268435456 bytes"
load_note load.OutOfMemory = memory_note

-- an image is too long to be mounted
unfoldable pub length_note : List ℕ
length_note = codes "an image has at most 268435456 bytes"

-- it has a node of a type that is not known, and that its writer lets no reader skip
unfoldable pub incompatible_note : List ℕ
incompatible_note = codes "no reader may skip the node, a later or different JFFS2 wrote it; "
    ++ codes "check --scan shows the others"

-- its root is no directory
unfoldable pub root_note : List ℕ
root_note = codes "inode 1 is no directory; the image is damaged, or was not made as a file system"

-- the data of a node do not decompress, or do not fit then
unfoldable pub data_note : List ℕ
data_note = codes "the data of the node break the rules of their method, or give another length"

unfoldable pub node_length_note : List ℕ
node_length_note = codes "the node does not fit into a block after its marker; "
    ++ codes "a --block that is too small may be the cause"

-- ---- paths

-- a path leads nowhere
unfoldable pub path_note : FindFault → List ℕ
path_note find.BadPath =
    codes "a path begins with /, as ls prints it, and no name in it is empty, . or .."
path_note find.NotFound =
    codes "a name on the path is not there, or leads to no object; ls shows those that do"
path_note find.NotDirectory =
    codes "the path goes on after something that is no directory, perhaps a symlink"

-- it does not lead to a file with bytes
unfoldable pub not_regular_note : List ℕ
not_regular_note = codes "the path leads to something that is no regular file"

-- ---- output

unfoldable pub output_note : List ℕ
output_note = codes "standard output took no more; what it got is cut off"

-- the device of the folder that is made is full
unfoldable pub no_space_note : List ℕ
no_space_note = codes "the device is full, or your quota is used up; what was made so far stays"

-- ---- operations

-- why an operation is refused
unfoldable pub refusal_note : OpFault → List ℕ
refusal_note op.BadPath =
    codes "a path begins with /, and no name in it is empty, . or ..; only attr takes / itself"
refusal_note op.NameTooLong = codes "a name has at most 254 bytes"
refusal_note op.NotFound =
    codes "something on the path is not there; no line makes the directories above its path"
refusal_note op.NotDirectory =
    codes "a path goes on after something that is no directory, perhaps a symlink"
refusal_note op.Exists =
    codes "the new name is there; remove it by an earlier line, "
    ++ codes "or use replace or put if it is no directory"
refusal_note op.WrongKind =
    codes "write and truncate take regular files, link and replace no directory, "
    ++ codes "attr no symlink or device"
refusal_note op.NotEmpty = codes "the directory has names, perhaps some that lead to no object"
refusal_note op.IntoItself = codes "a directory is not moved into or below itself"
refusal_note op.TooLarge = codes "a file has at most 2147483647 bytes"
refusal_note op.BadMode = codes "a mode is at most 7777, and the kind is no part of it"
refusal_note op.BadTarget = codes "the target of a symlink has 1 to 4095 bytes, none of them zero"
refusal_note op.Exhausted = codes "the image has the greatest inode number or version, 4294967295; "
    ++ codes "make it again from its files"
refusal_note op.OutOfMemory = memory_note

-- why a session refuses or stops; a cause is said where one is known
unfoldable pub session_note : SessionFault → Cause → List ℕ
session_note (session.Refused fault) cause = refusal_note fault
session_note (session.Full needed free) cause = cause_note cause
session_note session.ReadOnly cause =
    codes "a node of a type that is not known forbids writing; check --scan shows it"
session_note session.Sink cause = cause_note cause
session_note session.OutOfMemory cause = memory_note
session_note session.Broken cause = codes "this is an error of the program itself"
session_note session.Geometry cause = cause_note cause
