use Rattle.jremakes.proofs.JudgedLemmas.{judged_is_remade}
use Rattle.jremakes.proofs.laws.judged_is_remade.Goals as goal

pub returns : goal.returns
returns c = judged_is_remade
