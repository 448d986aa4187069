use Rattle.jedge.specs.Calls.{Answers}
use Rattle.jsystem.proofs.UntoldLemmas.{none_of, untold}
use Rattle.jsystem.proofs.host.SystemHostHost.close.Goals as goal

pub returns : goal.returns
returns c = λ text told. untold _ (none_of Answers text)
