use Rattle.jreport.proofs.PartLemmas.{part_is_stretch}
use Rattle.jreport.proofs.tree_laws.part_is_a_stretch.Goals as goal

pub returns : goal.returns
returns c = part_is_stretch
