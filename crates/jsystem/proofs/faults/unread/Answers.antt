use Rattle.std.proofs.Common.{refl}
use Rattle.jsystem.proofs.faults.unread.Goals as goal

pub returns-in-Device : goal.returns-in-Device
returns-in-Device c = rw c.in-Device.is (_, refl, refl, refl)
