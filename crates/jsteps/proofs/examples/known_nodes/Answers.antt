use Rattle.std.proofs.Common.{refl}
use Rattle.jsteps.specs.Steps.{own_bytes}
use Rattle.jsteps.proofs.ExampleLemmas.{top_inserted, object_inserted, small_file, small_file_top, small_root_top, empty_root_top}
use Rattle.jsteps.proofs.examples.known_nodes.Goals as goal

pub returns-clause-made : goal.returns-clause-made
unfolding own_bytes
returns-clause-made c = simp (object_inserted, top_inserted, empty_root_top) refl

pub returns-clause-written : goal.returns-clause-written
returns-clause-written c = simp (small_file, small_file_top, object_inserted, top_inserted) refl

pub returns-clause-cut : goal.returns-clause-cut
returns-clause-cut c = simp (small_file, small_file_top) refl

pub returns-clause-removed : goal.returns-clause-removed
returns-clause-removed c = simp small_root_top refl

pub returns-clause-device : goal.returns-clause-device
unfolding own_bytes
returns-clause-device c = simp (object_inserted, top_inserted, empty_root_top) refl
