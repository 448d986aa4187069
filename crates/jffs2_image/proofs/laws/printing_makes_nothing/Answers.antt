use Rattle.jffs2_image.proofs.RunLawLemmas.{printing_makes_nothing}
use Rattle.jffs2_image.proofs.laws.printing_makes_nothing.Goals as goal

pub returns : goal.returns
returns c = printing_makes_nothing
