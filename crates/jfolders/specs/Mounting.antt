-- What an extraction mounts of an image.
use Rattle.std.specs.Prelude.{ℕ, Bool, true, false, List, Result, Ok, Err}
use Rattle.jnode.specs.declared.order.Endian.{Endian}
use Rattle.jmount.specs.Mount.{Mount}
use Rattle.jdeleted.specs.FlatMounts.{AnswersDeleted}
use Rattle.jedge.specs.Images.{IsViewRefused, MountsWith}
use Rattle.jedge.specs.declared.fault.Fault.{Fault}
use Rattle.jedge.specs.declared.fault.Fault.TheVariants as fault

-- The deleted files of an image mount; or this says why not, as of a mount through its compression.
abbrev pub MountsDeleted : Endian → ℕ → List ℕ → Result Mount Fault → Type 0
MountsDeleted e size image (Ok mount) = AnswersDeleted e size image (Ok mount)
MountsDeleted e size image (Err (fault.File file)) = ⊥
MountsDeleted e size image (Err (fault.NotRead file)) = ⊥
MountsDeleted e size image (Err (fault.NoNodes told others)) = ⊥
MountsDeleted e size image (Err (fault.NoSpace folder)) = ⊥
MountsDeleted e size image (Err (fault.Findings told findings)) = ⊥
MountsDeleted e size image (Err (fault.Refused why)) = IsViewRefused e size image why
MountsDeleted e size image (Err fault.Output) = ⊥
MountsDeleted e size image (Err fault.OutOfMemory) = ⊥

-- whether the deleted files are asked for, and else whether to decompress
abbrev pub MountsToExtract : Bool → Bool → Endian → ℕ → List ℕ → Result Mount Fault → Type 0
MountsToExtract true decompress e size image answer = MountsDeleted e size image answer
MountsToExtract false decompress e size image answer = MountsWith decompress e size image answer
