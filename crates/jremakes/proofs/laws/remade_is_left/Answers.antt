use Rattle.jremakes.proofs.LeftLemmas.{remade_is_left}
use Rattle.jremakes.proofs.laws.remade_is_left.Goals as goal

pub returns : goal.returns
returns c = remade_is_left
