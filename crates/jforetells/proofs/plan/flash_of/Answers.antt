use Rattle.std.proofs.Common.{ap, sym}
use Rattle.jforetells.specs.Foretelling.{flash_foretold}
use Rattle.jforetells.proofs.plan.flash_of.Goals as goal

pub returns-in-Stops : goal.returns-in-Stops
returns-in-Stops c = sym (ap flash_foretold c.in-Stops.is)

pub returns-in-Halts : goal.returns-in-Halts
returns-in-Halts c = sym (ap flash_foretold c.in-Halts.is)
