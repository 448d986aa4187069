use Rattle.jcompact.proofs.PartLemmas.{all_reached, is_part, none_dangle}
use Rattle.jcompact.proofs.laws.nothing_is_left_over.Goals as goal

pub returns-clause-part : goal.returns-clause-part
returns-clause-part c ns kept apart (reached, says, is) n there = is_part ns kept reached apart says is n there

pub returns-clause-names : goal.returns-clause-names
returns-clause-names c ns kept apart (reached, says, is) = none_dangle ns kept reached apart says is

pub returns-clause-objects : goal.returns-clause-objects
returns-clause-objects c ns kept apart (reached, says, is) i there = all_reached ns kept reached apart says is i there
