use Rattle.jmount.proofs.UseLemmas.{state_is_numbered, fresh_number_is_free, new_node_does_not_clash}
use Rattle.jmount.proofs.laws.numbers_in_use.Goals as goal

pub returns : goal.returns
returns c = record { used = state_is_numbered; free = fresh_number_is_free; apart = new_node_does_not_clash }
