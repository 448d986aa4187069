use Rattle.std.proofs.Common.{refl}
use Rattle.jsteps.specs.Refusals.{planned_by}
use Rattle.jsteps.proofs.ExampleLemmas.{top_inserted, small_a, small_file, small_missing, small_q, small_r, small_root, small_root_top, nested_d, nested_directory, nested_root}
use Rattle.jsteps.proofs.examples.put_over.Goals as goal

pub returns-clause-over : goal.returns-clause-over
unfolding planned_by
returns-clause-over c = simp (small_root, small_a, small_file, small_root_top, top_inserted) refl

pub returns-clause-dangling : goal.returns-clause-dangling
unfolding planned_by
returns-clause-dangling c = simp (small_root, small_q, small_missing, small_root_top, top_inserted) refl

pub returns-clause-new : goal.returns-clause-new
unfolding planned_by
returns-clause-new c = simp (small_root, small_r, small_root_top, top_inserted) refl

pub returns-clause-directory : goal.returns-clause-directory
unfolding planned_by
returns-clause-directory c = simp (nested_root, nested_d, nested_directory) refl

pub returns-clause-root : goal.returns-clause-root
unfolding planned_by
returns-clause-root c = refl

pub returns-clause-below_file : goal.returns-clause-below_file
unfolding planned_by
returns-clause-below_file c = simp (small_root, small_a, small_file) refl

pub returns-clause-mode : goal.returns-clause-mode
unfolding planned_by
returns-clause-mode c = simp (small_root, small_a, small_file) refl
