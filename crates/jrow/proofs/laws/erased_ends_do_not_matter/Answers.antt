use Rattle.jrow.proofs.WrittenLemmas.{same_is_left_in_row, same_mounts_through}
use Rattle.jrow.proofs.laws.erased_ends_do_not_matter.Goals as goal

pub returns-clause-left : goal.returns-clause-left
returns-clause-left c = same_is_left_in_row

pub returns-clause-mounts : goal.returns-clause-mounts
returns-clause-mounts c = same_mounts_through
