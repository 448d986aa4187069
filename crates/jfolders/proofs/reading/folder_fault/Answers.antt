use Rattle.std.proofs.Common.{inl, inr, refl}
use Rattle.jfolders.proofs.reading.folder_fault.Goals as goal

pub returns-in-Ok : goal.returns-in-Ok
returns-in-Ok c = inl (record { name = c.in-Ok.name; reason = c.args.reason }, refl, c.in-Ok.ensures.ok, refl)

pub returns-in-Err : goal.returns-in-Err
returns-in-Err c = inr refl
