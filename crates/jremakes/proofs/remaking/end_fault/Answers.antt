use Rattle.std.proofs.Common.{refl, subst, sym}
use Rattle.std.specs.Prelude.{string_bytes}
use Rattle.jedge.specs.declared.fault.FailedFile.{FailedFile}
use Rattle.jedge.specs.declared.fault.Fault.TheVariants as fault
use Rattle.jmakes.specs.declared.wanted.CloseFault.{CloseFault}
use Rattle.jremakes.specs.Putting.{IsEndFault}
use Rattle.jremakes.proofs.remaking.end_fault.Goals as goal

pub returns-in-NotNamed : goal.returns-in-NotNamed
returns-in-NotNamed c =
    let file : FailedFile = record { name = c.args.name; reason = c.in-NotNamed.reason } in
    subst (λ (why : CloseFault). IsEndFault (string_bytes c.args.name) why (fault.File file))
    (sym c.in-NotNamed.is) (file, refl, refl, refl)
