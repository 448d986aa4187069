use Rattle.std.proofs.Common.{[], ◌∷◌, refl}
use Rattle.jedge.specs.Calls.{Did, ReadRegion}
use Rattle.jsystem.proofs.UntoldLemmas.{untold}
use Rattle.jsystem.proofs.streams_host.SystemHostStreamsHost.read_region.Goals as goal

pub returns-in-Ok : goal.returns-in-Ok
returns-in-Ok c = untold (Did (ReadRegion _ _) ∷ []) refl

pub returns-in-Err : goal.returns-in-Err
returns-in-Err c = untold [] refl
