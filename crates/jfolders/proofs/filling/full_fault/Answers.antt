use Rattle.std.proofs.Common.{inl, inr, refl}
use Rattle.jfolders.proofs.filling.full_fault.Goals as goal

pub returns-in-Ok : goal.returns-in-Ok
returns-in-Ok c = inl (c.in-Ok.name, refl, c.in-Ok.ensures.ok)

pub returns-in-Err : goal.returns-in-Err
returns-in-Err c = inr refl
