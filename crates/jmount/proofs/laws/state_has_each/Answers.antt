use Rattle.jmount.proofs.NumbersLemmas.{get-objects_of, object-state_of, named-state_of}
use Rattle.jmount.proofs.laws.state_has_each.Goals as goal

pub returns : goal.returns
returns c = record { objects = get-objects_of; object = object-state_of; name = named-state_of }
