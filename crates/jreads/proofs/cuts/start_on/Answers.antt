use Rattle.std.proofs.Common.{None, ap}
use Rattle.jreport.specs.declared.cause.Cause.{Cause}
use Rattle.jreport.specs.declared.faults.ProgramFault.TheVariants as program
use Rattle.jreads.proofs.cuts.start_on.Goals as goal

pub returns-in-Err-clause-starts : goal.returns-in-Err-clause-starts
returns-in-Err-clause-starts g c = (
  c.in-Err.fault,
  c.in-Err.ensures.fault,
  ap (λ (why : Cause). program.Session c.in-Err.fault None why) c.cut_cause.ensures,
)
