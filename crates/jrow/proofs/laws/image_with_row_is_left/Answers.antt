use Rattle.jrow.proofs.WrittenLemmas.{with_row_is_whole, image_with_row_is_left}
use Rattle.jrow.proofs.laws.image_with_row_is_left.Goals as goal

pub returns-clause-whole : goal.returns-clause-whole
returns-clause-whole c = with_row_is_whole

pub returns-clause-left : goal.returns-clause-left
returns-clause-left c = image_with_row_is_left
