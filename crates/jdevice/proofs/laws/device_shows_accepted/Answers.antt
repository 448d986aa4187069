use Rattle.jdevice.proofs.StayLemmas.{device_shows_accepted}
use Rattle.jdevice.proofs.laws.device_shows_accepted.Goals as goal

pub returns : goal.returns
returns c = device_shows_accepted
