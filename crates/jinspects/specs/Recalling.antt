-- `cat --ino`: what an object was, by its nodes up to a version.
use Rattle.std.specs.Prelude.{◌≡◌, ◌⊎◌, ℕ, IsTrue, List, [], Option, Some, None, is_some, Result, Ok, Err}
use Rattle.jnode.specs.declared.order.Endian.{Endian}
use Rattle.jexpand.specs.Expanded.{expanded_nodes}
use Rattle.jthrough.specs.declared.fault.ViewFault.{ViewFault}
use Rattle.jversions.specs.Answers.{IsNoRevision, IsRevision}
use Rattle.jversions.specs.Revisions.{content_upto, object_upto}
use Rattle.jversions.specs.declared.fault.RevisionFault.{RevisionFault}
use Rattle.jversions.specs.declared.fault.RevisionFault.TheVariants as revision
use Rattle.jversions.specs.declared.revision.Revision.{Revision}
use Rattle.jreport.specs.FoundIn.{found_in}
use Rattle.jreport.specs.declared.faults.ProgramFault.{ProgramFault}
use Rattle.jreport.specs.declared.faults.ProgramFault.TheVariants as program
use Rattle.jreport.specs.declared.image_fault.ImageFault.TheVariants as wrong
use Rattle.jedge.specs.Acts.{Saying}
use Rattle.jedge.specs.Commands.{findings_noted}
use Rattle.jedge.specs.Images.{view_refusal}
use Rattle.jedge.specs.Showing.{IsFrontOf}
use Rattle.jedge.specs.Told.{Told}
use Rattle.jedge.specs.declared.fault.Fault.{Fault}
use Rattle.jedge.specs.declared.fault.Fault.TheVariants as fault

-- nothing is found; the findings of the image are noted
abbrev pub recalled_told : Endian → ℕ → List ℕ → Told
recalled_told e size image =
    record { counted = 0; noted = findings_noted (found_in e size image).noted }

-- a fault of the library, as the command ends by it
abbrev pub recall_fault : ℕ → RevisionFault → Fault
recall_fault ino (revision.Refused why) = fault.Refused (view_refusal why)
recall_fault ino revision.NoNode = fault.Refused (program.Image (wrong.NoInode ino))
recall_fault ino revision.NoContent = fault.Refused (program.Image (wrong.NoContent ino))
recall_fault ino revision.Output = fault.Output

-- an answer, where all was put
abbrev pub recalled_as : ℕ → Told → Result Unit RevisionFault → Result Told Fault
recalled_as ino told (Ok _) = Ok told
recalled_as ino told (Err why) = Err (recall_fault ino why)

-- Why there are no bytes: its nodes do not mount; or there are none; or it has no bytes by them.
abbrev pub IsForgotten : Revision → Endian → ℕ → List ℕ → ProgramFault → Type 0
IsForgotten r e size image why =
    ((view : ViewFault) × (why ≡ view_refusal view) × IsNoRevision r e size image view)
    ⊎ ((why ≡ program.Image (wrong.NoInode r.ino))
    × (object_upto r (expanded_nodes e size image) ≡ None))
    ⊎ ((why ≡ program.Image (wrong.NoContent r.ino))
    × IsTrue (is_some (object_upto r (expanded_nodes e size image)))
    × (content_upto r (expanded_nodes e size image) ≡ None))

-- its bytes
abbrev pub IsRecalled : Revision → Endian → ℕ → List ℕ → List ℕ → Type 0
IsRecalled r e size image bytes = IsRevision r e size image
    × (content_upto r (expanded_nodes e size image) ≡ Some bytes)

-- The bytes; or a beginning of them, where the output fails; or none, where there are none.
abbrev pub Recalls : Revision → Endian → ℕ → Told → List ℕ → Saying Told
Recalls r e size answer image text (Ok told) =
    IsRecalled r e size image text × (told ≡ answer)
Recalls r e size answer image text (Err (fault.File file)) = ⊥
Recalls r e size answer image text (Err (fault.NotRead file)) = ⊥
Recalls r e size answer image text (Err (fault.NoNodes of others)) = ⊥
Recalls r e size answer image text (Err (fault.NoSpace folder)) = ⊥
Recalls r e size answer image text (Err (fault.Findings of findings)) = ⊥
Recalls r e size answer image text (Err (fault.Refused why)) =
    IsForgotten r e size image why × (text ≡ [])
Recalls r e size answer image text (Err fault.Output) =
    (whole : List ℕ) × IsRecalled r e size image whole × IsFrontOf whole text
Recalls r e size answer image text (Err fault.OutOfMemory) = ⊥
