-- Why an image does not mount, as the program tells it: which faults these are.
use Rattle.std.proofs.Common.{◌≡◌, ℕ, List, Err, refl, sym, subst}
use Rattle.jnode.specs.declared.order.Endian.{Endian}
use Rattle.jscan.specs.Image.{nodes}
use Rattle.jmount.specs.Mounts.{Answers}
use Rattle.jmount.specs.declared.fault.MountFault.{MountFault}
use Rattle.jmount.specs.declared.fault.MountFault.TheVariants as mount
use Rattle.jreport.specs.Refusal.{IsShownRefusal, IsRefusalTold}
use Rattle.jreport.specs.declared.faults.ProgramFault.{ProgramFault}
use Rattle.jreport.specs.declared.faults.ProgramFault.TheVariants as program

pub refusal_cases : (P : ProgramFault → Type 0) (e : Endian) (size : ℕ) (image : List ℕ) (f : ProgramFault)
    → ((g : MountFault) → IsRefusalTold e size image (program.Mount g) → P (program.Mount g))
    → ((addr other : ℕ) → IsRefusalTold e size image (program.Clash addr other) → P (program.Clash addr other))
    → IsRefusalTold e size image f → P f
refusal_cases P e size image f of_mount of_clash told = by told.0 told.1 told.2
  where
    plain : (g : MountFault) → IsRefusalTold e size image (program.Mount g) → f ≡ program.Mount g → P f
    plain g here is = subst P (sym is) (of_mount g here)

    by : (g : MountFault) → Answers e size image (Err g) → IsShownRefusal (nodes e size image) g f → P f
    by (mount.Clash addr) answers shown = subst P (sym shown.1) (of_clash addr shown.0 (mount.Clash addr, answers, (shown.0, refl, shown.2)))
    by mount.BlockSize answers shown = plain mount.BlockSize (mount.BlockSize, answers, refl) shown
    by mount.TooLarge answers shown = plain mount.TooLarge (mount.TooLarge, answers, refl) shown
    by (mount.Incompatible addr nodetype) answers shown = plain (mount.Incompatible addr nodetype) (mount.Incompatible addr nodetype, answers, refl) shown
    by (mount.Compressed addr compr) answers shown = plain (mount.Compressed addr compr) (mount.Compressed addr compr, answers, refl) shown
    by mount.RootKind answers shown = plain mount.RootKind (mount.RootKind, answers, refl) shown
    by mount.OutOfMemory answers shown = plain mount.OutOfMemory (mount.OutOfMemory, answers, refl) shown
