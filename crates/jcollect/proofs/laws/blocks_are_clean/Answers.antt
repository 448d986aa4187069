use Rattle.jcollect.proofs.CleanLemmas.{clean_blocks}
use Rattle.jcollect.proofs.laws.blocks_are_clean.Goals as goal

pub returns : goal.returns
returns c = clean_blocks
