use Rattle.std.proofs.Common.{[], refl}
use Rattle.jedge.specs.Acts.{Ends, GoesOn}
use Rattle.jverifies.proofs.making.make_in_memory.Goals as goal

pub make_on-requires : goal.make_on-requires
make_on-requires g c = c.in-Ok.ensures.1

pub returns-in-Ok : goal.returns-in-Ok
returns-in-Ok g c = GoesOn c.in-Ok.mounted [] [] (refl, c.in-Ok.ensures) c.make_on.ensures refl

pub returns-in-Err : goal.returns-in-Err
returns-in-Err g c = Ends c.in-Err.fault (refl, c.in-Err.ensures) refl
