-- What is printed of an image that is looked at.
use Rattle.std.specs.Prelude.{◌≡◌, ◌⊎◌, ℕ, Bool, List, [], take, if◌then◌else◌, Option, Some, None, Result, Ok, Err}
use Rattle.jnode.specs.declared.order.Endian.{Endian}
use Rattle.jmount.specs.Find.{find}
use Rattle.jmount.specs.Mount.{Mount}
use Rattle.jmount.specs.Mounts.{Answers}
use Rattle.jmount.specs.Tree.{State}
use Rattle.jmount.specs.declared.fault.FindFault.{FindFault}
use Rattle.jmount.specs.declared.fault.MountFault.TheVariants as mount
use Rattle.jreport.specs.Content.{IsContentFault}
use Rattle.jreport.specs.Report.{scan_text}
use Rattle.jreport.specs.TreeText.{IsItemAt, IsTextFrom, IsTreeText, Item}
use Rattle.jreport.specs.WholeImage.{IsCheck}
use Rattle.jreport.specs.declared.faults.ProgramFault.{ProgramFault}
use Rattle.jreport.specs.declared.faults.ProgramFault.TheVariants as program
use Rattle.jedge.specs.Acts.{Saying}
use Rattle.jedge.specs.Faults.{command_fault}
use Rattle.jedge.specs.Told.{Told}
use Rattle.jedge.specs.declared.fault.Fault.{Fault}
use Rattle.jedge.specs.declared.fault.Fault.TheVariants as fault

-- a beginning of a text
abbrev pub IsFrontOf : List ℕ → List ℕ → Type 0
IsFrontOf whole text = (n : ℕ) × (text ≡ take n whole)

-- ---- `check`

-- that something was found is all that is told
abbrev pub found_checked : Bool → Told
found_checked found = record { counted = if found then 1 else 0; noted = None }

abbrev pub check_found : Result Bool ProgramFault → Result Told Fault
check_found (Ok found) = Ok (found_checked found)
check_found (Err why) = Err (command_fault why)

-- a beginning of the report, or of the report and the verdict
abbrev pub IsPartOfCheck : Endian → ℕ → Bool → List ℕ → List ℕ → Type 0
IsPartOfCheck e size shape image text = IsFrontOf (scan_text e size image) text
    ⊎ ((whole : List ℕ) × (found : Bool) × IsCheck e size image shape whole found
    × IsFrontOf whole text)

-- The report of an image and the verdict on its mount, with its shape where that is asked for.
-- Where the output fails, a beginning of it; where memory runs out, in the mount or behind it, the
-- report.
abbrev pub Checks : Endian → ℕ → Bool → List ℕ → Saying Told
Checks e size shape image text (Ok told) =
    (found : Bool) × IsCheck e size image shape text found × (told ≡ found_checked found)
Checks e size shape image text (Err (fault.File file)) = ⊥
Checks e size shape image text (Err (fault.NotRead file)) = ⊥
Checks e size shape image text (Err (fault.NoNodes of others)) = ⊥
Checks e size shape image text (Err (fault.NoSpace folder)) = ⊥
Checks e size shape image text (Err (fault.Findings of findings)) = ⊥
Checks e size shape image text (Err (fault.Refused why)) = (why ≡ program.Mount mount.OutOfMemory)
    × Answers e size image (Err mount.OutOfMemory) × (text ≡ scan_text e size image)
Checks e size shape image text (Err fault.Output) = IsPartOfCheck e size shape image text
Checks e size shape image text (Err fault.OutOfMemory) =
    (m : Mount) × Answers e size image (Ok m) × (text ≡ scan_text e size image)

-- ---- `ls`

-- an answer, where all was put
abbrev pub put_found : Told → Result Unit ProgramFault → Result Told Fault
put_found told (Ok _) = Ok told
put_found told (Err why) = Err (command_fault why)

-- the lines of a tree, or of the part of it that a path names
abbrev pub IsListed : State → Option (List ℕ) → List ℕ → Type 0
IsListed s None text = IsTreeText s text
IsListed s (Some path) text = (item : Item) × IsItemAt s path item × IsTextFrom s item text

-- the path names nothing, for this reason
abbrev pub NamesNothing : State → Option (List ℕ) → ProgramFault → Type 0
NamesNothing s None why = ⊥
NamesNothing s (Some path) why =
    (reason : FindFault) × (why ≡ program.Path reason) × (find s path ≡ Err reason)

-- Those lines; or a beginning of them, where the output fails or memory runs out; or none, where
-- the path names nothing.
abbrev pub Lists : State → Option (List ℕ) → Told → Saying Told
Lists s part answer text (Ok told) = IsListed s part text × (told ≡ answer)
Lists s part answer text (Err (fault.File file)) = ⊥
Lists s part answer text (Err (fault.NotRead file)) = ⊥
Lists s part answer text (Err (fault.NoNodes of others)) = ⊥
Lists s part answer text (Err (fault.NoSpace folder)) = ⊥
Lists s part answer text (Err (fault.Findings of findings)) = ⊥
Lists s part answer text (Err (fault.Refused why)) = NamesNothing s part why × (text ≡ [])
Lists s part answer text (Err fault.Output) =
    (whole : List ℕ) × IsListed s part whole × IsFrontOf whole text
Lists s part answer text (Err fault.OutOfMemory) =
    (whole : List ℕ) × IsListed s part whole × IsFrontOf whole text

-- ---- `cat`

-- The bytes of a file; or a beginning of them, where the output fails; or none, where there are
-- none.
abbrev pub Contains : Result (List ℕ) ProgramFault → Told → Saying Told
Contains content answer text (Ok told) = (content ≡ Ok text) × (told ≡ answer)
Contains content answer text (Err (fault.File file)) = ⊥
Contains content answer text (Err (fault.NotRead file)) = ⊥
Contains content answer text (Err (fault.NoNodes of others)) = ⊥
Contains content answer text (Err (fault.NoSpace folder)) = ⊥
Contains content answer text (Err (fault.Findings of findings)) = ⊥
Contains content answer text (Err (fault.Refused why)) = IsContentFault content why × (text ≡ [])
Contains content answer text (Err fault.Output) =
    (whole : List ℕ) × (content ≡ Ok whole) × IsFrontOf whole text
Contains content answer text (Err fault.OutOfMemory) = ⊥
