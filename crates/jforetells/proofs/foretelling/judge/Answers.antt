use Rattle.std.proofs.Common.{◌∙◌, None, ap, refl, subst, sym}
use Rattle.std.specs.Prelude.{IsOk}
use Rattle.jreport.specs.declared.cause.Cause.{Cause}
use Rattle.jreport.specs.declared.faults.ProgramFault.TheVariants as program
use Rattle.jforetells.proofs.foretelling.judge.Goals as goal

pub returns-in-Ok : goal.returns-in-Ok
returns-in-Ok g c = subst IsOk (sym c.in-Ok.is ∙ c.start_at.ensures) refl

pub returns-in-Err : goal.returns-in-Err
returns-in-Err g c = (c.in-Err.fault, sym c.start_at.ensures ∙ c.in-Err.is, ap (λ (why : Cause). program.Session c.in-Err.fault None why) c.cause_on.ensures)
