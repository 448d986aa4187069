use Rattle.std.proofs.Common.{ap, option_map}
use Rattle.jmount.specs.Examples.{three_versions}
use Rattle.jmount.proofs.NumbersLemmas.{object-state_of}
use Rattle.jmount.proofs.examples.three_pieces.Goals as goal

pub returns : goal.returns
returns c = ap (option_map (λ o. o.body)) (object-state_of three_versions 2)
