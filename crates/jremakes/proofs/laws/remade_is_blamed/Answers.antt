use Rattle.jremakes.proofs.BlamedLemmas.{remade_is_blamed}
use Rattle.jremakes.proofs.laws.remade_is_blamed.Goals as goal

pub returns : goal.returns
returns c = remade_is_blamed
