use Rattle.jmount.proofs.OutlineLemmas.{object-outline, find-outline}
use Rattle.jmount.proofs.laws.outline_keeps_find.Goals as goal

pub returns : goal.returns
returns c = record { objects = object-outline; find = find-outline }
