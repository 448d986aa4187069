use Rattle.jdevice.proofs.StayLemmas.{device_stays_outside}
use Rattle.jdevice.proofs.laws.device_stays_outside.Goals as goal

pub returns : goal.returns
returns c = device_stays_outside
