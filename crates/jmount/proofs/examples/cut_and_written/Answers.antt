use Rattle.std.proofs.Common.{ap, option_map}
use Rattle.jmount.specs.Examples.{five_versions}
use Rattle.jmount.proofs.NumbersLemmas.{object-state_of}
use Rattle.jmount.proofs.examples.cut_and_written.Goals as goal

pub returns-clause-bytes : goal.returns-clause-bytes
returns-clause-bytes c = ap (option_map (λ o. o.body)) (object-state_of five_versions 2)
