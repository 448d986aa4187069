use Rattle.jedge.proofs.ViewLemmas.{refused_of}
use Rattle.jedge.proofs.fault.Fault.of.Goals as goal

pub returns-in_default : goal.returns-in_default
returns-in_default c = refused_of c.args.fault c.in_default.not-Output c.in_default.not-OutOfMemory
