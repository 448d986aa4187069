use Rattle.std.proofs.Common.{inr}
use Rattle.jedge.specs.Calls.{Errors}
use Rattle.jsystem.proofs.UntoldLemmas.{none_of, untold}
use Rattle.jsystem.proofs.host.SystemHostHost.close_errors.Goals as goal

pub returns : goal.returns
returns c = λ text told. untold _ (inr (none_of Errors text))
