use Rattle.std.proofs.Common.{[], ◌∷◌, refl}
use Rattle.jedge.specs.Calls.{Did, PrintJson}
use Rattle.jsystem.proofs.UntoldLemmas.{untold}
use Rattle.jsystem.proofs.streams_host.SystemHostStreamsHost.print_json.Goals as goal

pub returns : goal.returns
returns c = untold (Did (PrintJson _) ∷ []) refl
