-- What is true of the acts of `pack` and `pack --compress`.
use Rattle.std.specs.Prelude.{◌⊎◌, ℕ, List, Err}
use Rattle.jnode.specs.declared.order.Endian.{Endian}
use Rattle.jcommand.specs.declared.parsed.Packing.{Packing}
use Rattle.jedge.specs.Calls.{Event}
use Rattle.jedge.specs.declared.fault.Fault.{Fault}
use Rattle.jfolders.specs.Laws.{BlamesCall}
use Rattle.jmakes.specs.Blaming.{IsFileBlamed}
use Rattle.jmakes.specs.Laws.{IsWriteBlamed, JudgesBeforeMaking, LeavesAtFault}
use Rattle.jpacks.specs.Packing.{file_of_packing, image_packed, pack_act, pack_compressed_act}

-- with `--atomic`, any fault but that of the output leaves the files as they were
abbrev pub PackLeavesFiles : Type 0
PackLeavesFiles = (e : Endian) (asked : Packing (List ℕ))
    → LeavesAtFault (image_packed e asked).file (pack_act e asked)

-- all that can be refused is refused before a file is made
abbrev pub PackJudgedFirst : Type 0
PackJudgedFirst = (e : Endian) (asked : Packing (List ℕ))
    → JudgesBeforeMaking (image_packed e asked).file (pack_act e asked)

-- a call on what is blamed failed, for the reason that is told: on a file or a folder that is read,
-- or on the file of this name, which is made
abbrev pub IsPackBlamed : List ℕ → Fault → List Event → Type 0
IsPackBlamed name f events =
    BlamesCall f events ⊎ (IsFileBlamed name f events ⊎ IsWriteBlamed f events)

abbrev pub PackBlamed : Type 0
PackBlamed = (e : Endian) (asked : Packing (List ℕ)) (events : List Event)
    (f : Fault) → pack_act e asked events (Err f)
    → IsPackBlamed (image_packed e asked).file.name f events

-- ---- the same of `pack --compress`

abbrev pub PackCompressedLeavesFiles : Type 0
PackCompressedLeavesFiles = (e : Endian) (asked : Packing (List ℕ))
    → LeavesAtFault (file_of_packing asked) (pack_compressed_act e asked)

abbrev pub PackCompressedJudgedFirst : Type 0
PackCompressedJudgedFirst = (e : Endian) (asked : Packing (List ℕ))
    → JudgesBeforeMaking (file_of_packing asked) (pack_compressed_act e asked)
