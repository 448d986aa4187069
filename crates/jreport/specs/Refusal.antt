-- Why an image does not mount, as the program tells it.
use Rattle.std.specs.Prelude.{◌≡◌, ℕ, List, Some, Err}
use Rattle.jnode.specs.declared.order.Endian.{Endian}
use Rattle.jnode.specs.declared.node.NodeRef.{NodeRef}
use Rattle.jscan.specs.Image.{nodes}
use Rattle.jmount.specs.Mounts.{Answers}
use Rattle.jmount.specs.declared.fault.MountFault.{MountFault}
use Rattle.jmount.specs.declared.fault.MountFault.TheVariants as mount
use Rattle.jclash.specs.Lowest.{IsClashBelow}
use Rattle.jreport.specs.declared.faults.ProgramFault.{ProgramFault}
use Rattle.jreport.specs.declared.faults.ProgramFault.TheVariants as program

-- A mount's fault of an image with these nodes is shown as this one: where nodes clash, with the
-- address of the other one too.
abbrev pub IsShownRefusal : List (ℕ × NodeRef) → MountFault → ProgramFault → Type 0
IsShownRefusal ns (mount.Clash addr) fault =
    (other : ℕ) × (fault ≡ program.Clash addr other) × IsClashBelow ns addr (Some other)
IsShownRefusal ns refused fault = fault ≡ program.Mount refused

-- rule: What is printed: Both nodes of a clash, if a command's image does not mount.
--   definitions: jreport.Refusal.IsRefusalTold, jreport.Refusal.IsShownRefusal
--   code: jreport::refusal::mount_or_tell
-- the image does not mount, and this says why
abbrev pub IsRefusalTold : Endian → ℕ → List ℕ → ProgramFault → Type 0
IsRefusalTold e size image fault = (refused : MountFault) × Answers e size image (Err refused)
    × IsShownRefusal (nodes e size image) refused fault
