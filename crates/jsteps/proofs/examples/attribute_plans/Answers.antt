use Rattle.std.proofs.Common.{refl}
use Rattle.jsteps.specs.Refusals.{planned_by}
use Rattle.jsteps.proofs.ExampleLemmas.{empty_root, empty_root_top, small_a, small_file, small_file_top, small_root, small_root_top}
use Rattle.jsteps.proofs.examples.attribute_plans.Goals as goal

pub returns-clause-file : goal.returns-clause-file
unfolding planned_by
returns-clause-file c = simp (small_root, small_a, small_file, small_file_top) refl

pub returns-clause-root : goal.returns-clause-root
unfolding planned_by
returns-clause-root c = simp (small_root, small_root_top) refl

pub returns-clause-node : goal.returns-clause-node
returns-clause-node c = simp (small_file, small_file_top) refl

pub returns-clause-root_node : goal.returns-clause-root_node
returns-clause-root_node c = simp (empty_root, empty_root_top) refl
