use Rattle.std.proofs.Common.{refl}
use Rattle.jsteps.specs.Refusals.{planned_by}
use Rattle.jsteps.proofs.ExampleLemmas.{top_inserted, small_a, small_b, small_file, small_missing, small_q, small_root, small_root_top, nested_d, nested_directory, nested_e, nested_root}
use Rattle.jsteps.proofs.examples.replaced_names.Goals as goal

pub returns-clause-over : goal.returns-clause-over
unfolding planned_by
returns-clause-over c = simp (small_root, small_a, small_q, small_file, small_missing, small_root_top, top_inserted) refl

pub returns-clause-new : goal.returns-clause-new
unfolding planned_by
returns-clause-new c = simp (small_root, small_a, small_b, small_file, small_root_top, top_inserted) refl

pub returns-clause-same : goal.returns-clause-same
unfolding planned_by
returns-clause-same c = simp (small_root, small_a, small_file) refl

pub returns-clause-root : goal.returns-clause-root
unfolding planned_by
returns-clause-root c = refl

pub returns-clause-dangling : goal.returns-clause-dangling
unfolding planned_by
returns-clause-dangling c = simp (small_root, small_q, small_missing, small_a) refl

pub returns-clause-directory : goal.returns-clause-directory
unfolding planned_by
returns-clause-directory c = simp (nested_root, nested_d, nested_directory, nested_e) refl

pub returns-clause-same_directory : goal.returns-clause-same_directory
unfolding planned_by
returns-clause-same_directory c = simp (nested_root, nested_d, nested_directory) refl
