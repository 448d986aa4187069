use Rattle.std.proofs.Common.{inl, refl}
use Rattle.jsystem.proofs.faults.unmade.Goals as goal

pub returns-in-Ok : goal.returns-in-Ok
returns-in-Ok c = inl (_, refl, c.in-Ok.ensures.ok, c.of.ensures)
