use Rattle.jrow.proofs.WithRowLemmas.{row_is_of_blank_blocks}
use Rattle.jrow.proofs.AddressLemmas.{blank_blocks_are_few}
use Rattle.jrow.proofs.laws.row_is_of_blank_blocks.Goals as goal

pub returns-clause-each : goal.returns-clause-each
returns-clause-each c = row_is_of_blank_blocks

pub returns-clause-row : goal.returns-clause-row
returns-clause-row c = blank_blocks_are_few
