use Rattle.jfolders.proofs.ReadLaws.{reading_makes_nothing}
use Rattle.jfolders.proofs.laws.reading_makes_nothing.Goals as goal

pub returns : goal.returns
returns c = reading_makes_nothing
