use Rattle.jrow.proofs.BlockLemmas.{image_is_of_blocks, row_is_of_blocks}
use Rattle.jrow.proofs.laws.nodes_are_of_blocks.Goals as goal

pub returns-clause-image : goal.returns-clause-image
returns-clause-image c = image_is_of_blocks

pub returns-clause-row : goal.returns-clause-row
returns-clause-row c = row_is_of_blocks
