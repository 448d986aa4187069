use Rattle.jopenings.proofs.StretchLemmas.{flash_with_is_whole, same_is_left_of_shares, image_with_shares_is_left}
use Rattle.jopenings.proofs.laws.image_with_shares_is_left.Goals as goal

pub returns-clause-whole : goal.returns-clause-whole
returns-clause-whole c = flash_with_is_whole

pub returns-clause-same : goal.returns-clause-same
returns-clause-same c = same_is_left_of_shares

pub returns-clause-left : goal.returns-clause-left
returns-clause-left c = image_with_shares_is_left
