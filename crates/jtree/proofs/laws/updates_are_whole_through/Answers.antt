use Rattle.jtree.proofs.WholeThroughLemmas.{whole_through, whole_in_row}
use Rattle.jtree.proofs.laws.updates_are_whole_through.Goals as goal

pub returns : goal.returns
returns c = record { tail = whole_through; row = whole_in_row }
