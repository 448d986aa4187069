-- Images that a command goes on with.
use Rattle.std.specs.Prelude.{◌≡◌, ◌⊎◌, ℕ, Bool, true, false, IsSome, List, Option, option_map, string_bytes, Result, Ok, Err}
use Rattle.jnode.specs.declared.order.Endian.{Endian}
use Rattle.jlook.specs.Chosen.{AnswersChosen, Choice}
use Rattle.jmount.specs.Mount.{Mount}
use Rattle.jmount.specs.Mounts.{Answers}
use Rattle.jmount.specs.declared.fault.MountFault.TheVariants as mount
use Rattle.jthrough.specs.MountsThrough.{AnswersThrough}
use Rattle.jthrough.specs.declared.fault.ViewFault.{ViewFault}
use Rattle.jthrough.specs.declared.fault.ViewFault.TheVariants as view
use Rattle.jreport.specs.NoNodes.{HasNoNode, TellsNone, node_count, other_order}
use Rattle.jreport.specs.Refusal.{IsRefusalTold}
use Rattle.jreport.specs.declared.faults.ProgramFault.{ProgramFault}
use Rattle.jreport.specs.declared.faults.ProgramFault.TheVariants as program
use Rattle.jedge.specs.declared.fault.Fault.{Fault}
use Rattle.jedge.specs.declared.fault.Fault.TheVariants as fault

-- no node is found in the image of this name; or it has one, and there is no memory for it
abbrev pub IsNoNodesOf : Option (List ℕ) → ℕ → Fault → Type 0
IsNoNodesOf name count (fault.File file) = ⊥
IsNoNodesOf name count (fault.NotRead file) = ⊥
IsNoNodesOf name count (fault.NoNodes told others) =
    (option_map string_bytes told ≡ name) × (others ≡ count)
IsNoNodesOf name count (fault.NoSpace folder) = ⊥
IsNoNodesOf name count (fault.Findings told findings) = ⊥
IsNoNodesOf name count (fault.Refused why) = ⊥
IsNoNodesOf name count fault.Output = ⊥
IsNoNodesOf name count fault.OutOfMemory = IsSome name

-- A node is found in an image, or it is blank; any other is refused, with its name where it has one
-- and the number of nodes of the other byte order. There may be no memory for a name that it has.
abbrev pub HasNodes : Endian → ℕ → Option (List ℕ) → List ℕ → Result Unit Fault → Type 0
HasNodes e size name image (Ok _) = HasNoNode e size image → ⊥
HasNodes e size name image (Err (fault.File file)) = ⊥
HasNodes e size name image (Err (fault.NotRead file)) = ⊥
HasNodes e size name image (Err (fault.NoNodes told others)) = HasNoNode e size image
    × (option_map string_bytes told ≡ name) × (others ≡ node_count (other_order e) size image)
HasNodes e size name image (Err (fault.NoSpace folder)) = ⊥
HasNodes e size name image (Err (fault.Findings told findings)) = ⊥
HasNodes e size name image (Err (fault.Refused why)) = ⊥
HasNodes e size name image (Err fault.Output) = ⊥
HasNodes e size name image (Err fault.OutOfMemory) = HasNoNode e size image × IsSome name

-- an image mounts, or this says why not
abbrev pub MountsOrRefuses : Endian → ℕ → List ℕ → Result Mount Fault → Type 0
MountsOrRefuses e size image (Ok mount) = Answers e size image (Ok mount)
MountsOrRefuses e size image (Err (fault.File file)) = ⊥
MountsOrRefuses e size image (Err (fault.NotRead file)) = ⊥
MountsOrRefuses e size image (Err (fault.NoNodes told others)) = ⊥
MountsOrRefuses e size image (Err (fault.NoSpace folder)) = ⊥
MountsOrRefuses e size image (Err (fault.Findings told findings)) = ⊥
MountsOrRefuses e size image (Err (fault.Refused why)) = IsRefusalTold e size image why
MountsOrRefuses e size image (Err fault.Output) = ⊥
MountsOrRefuses e size image (Err fault.OutOfMemory) = ⊥

-- why an image does not mount through its compression, as the program tells it
abbrev pub view_refusal : ViewFault → ProgramFault
view_refusal view.BlockSize = program.Mount mount.BlockSize
view_refusal view.TooLarge = program.Mount mount.TooLarge
view_refusal (view.Incompatible addr nodetype) = program.Mount (mount.Incompatible addr nodetype)
view_refusal (view.Compressed addr compr) = program.Mount (mount.Compressed addr compr)
view_refusal (view.Data addr) = program.Data addr
view_refusal (view.TooLong addr) = program.TooLong addr
view_refusal (view.Clash addr) = program.Mount (mount.Clash addr)
view_refusal view.RootKind = program.Mount mount.RootKind
view_refusal view.OutOfMemory = program.Mount mount.OutOfMemory

abbrev pub IsViewRefused : Endian → ℕ → List ℕ → ProgramFault → Type 0
IsViewRefused e size image why = (refused : ViewFault) × (why ≡ view_refusal refused)
    × AnswersThrough e size image (Err refused)

-- An image mounts, through its compression where that is asked for; or this says why not.
abbrev pub MountsWith : Bool → Endian → ℕ → List ℕ → Result Mount Fault → Type 0
MountsWith false e size image answer = MountsOrRefuses e size image answer
MountsWith true e size image (Ok mount) = AnswersThrough e size image (Ok mount)
MountsWith true e size image (Err (fault.File file)) = ⊥
MountsWith true e size image (Err (fault.NotRead file)) = ⊥
MountsWith true e size image (Err (fault.NoNodes told others)) = ⊥
MountsWith true e size image (Err (fault.NoSpace folder)) = ⊥
MountsWith true e size image (Err (fault.Findings told findings)) = ⊥
MountsWith true e size image (Err (fault.Refused why)) = IsViewRefused e size image why
MountsWith true e size image (Err fault.Output) = ⊥
MountsWith true e size image (Err fault.OutOfMemory) = ⊥

-- why an image is not looked at for what is chosen in it, as the program tells it
abbrev pub IsChosenRefused : Choice → Endian → ℕ → List ℕ → ProgramFault → Type 0
IsChosenRefused choice e size image why = (refused : ViewFault) × (why ≡ view_refusal refused)
    × AnswersChosen choice e size image (Err refused)

-- An image mounts, through its compression where that is asked for: then the data of what is chosen
-- in its file system are decompressed, and no others. Or this says why not.
abbrev pub MountsFor : Choice → Bool → Endian → ℕ → List ℕ → Result Mount Fault → Type 0
MountsFor choice false e size image answer = MountsOrRefuses e size image answer
MountsFor choice true e size image (Ok mount) = AnswersChosen choice e size image (Ok mount)
MountsFor choice true e size image (Err (fault.File file)) = ⊥
MountsFor choice true e size image (Err (fault.NotRead file)) = ⊥
MountsFor choice true e size image (Err (fault.NoNodes told others)) = ⊥
MountsFor choice true e size image (Err (fault.NoSpace folder)) = ⊥
MountsFor choice true e size image (Err (fault.Findings told findings)) = ⊥
MountsFor choice true e size image (Err (fault.Refused why)) =
    IsChosenRefused choice e size image why
MountsFor choice true e size image (Err fault.Output) = ⊥
MountsFor choice true e size image (Err fault.OutOfMemory) = ⊥

-- two images mount, or this says why not: the first, or the second behind it
abbrev pub MountsBoth : Bool → Endian → ℕ → List ℕ → List ℕ → Result (Mount × Mount) Fault → Type 0
MountsBoth decompress e size image other (Ok both) =
    MountsWith decompress e size image (Ok both.0) × MountsWith decompress e size other (Ok both.1)
MountsBoth decompress e size image other (Err f) = MountsWith decompress e size image (Err f)
    ⊎ ((left : Mount) × MountsWith decompress e size image (Ok left)
    × MountsWith decompress e size other (Err f))

-- It is told of an image in which no node is found how many the other byte order has.
abbrev pub NotesNone : Endian → ℕ → List ℕ → Result (Option ℕ) Fault → Type 0
NotesNone e size image (Ok others) = TellsNone e size image others
NotesNone e size image (Err f) = ⊥
