use Rattle.jdamage.proofs.ImageWithoutLemmas.{image_is_same_without}
use Rattle.jdamage.proofs.StateWithoutLemmas.{state_is_same_without}
use Rattle.jdamage.proofs.ThroughWithoutLemmas.{through_is_same_without}
use Rattle.jdamage.proofs.WithoutLemmas.{object_is_same_without}
use Rattle.jdamage.proofs.laws.same_without.Goals as goal

pub returns-clause-object : goal.returns-clause-object
returns-clause-object c = object_is_same_without

pub returns-clause-state : goal.returns-clause-state
returns-clause-state c = state_is_same_without

pub returns-clause-image : goal.returns-clause-image
returns-clause-image c = image_is_same_without

pub returns-clause-through : goal.returns-clause-through
returns-clause-through c = through_is_same_without
