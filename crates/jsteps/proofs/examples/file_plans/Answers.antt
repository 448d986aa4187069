use Rattle.std.proofs.Common.{refl}
use Rattle.jsteps.specs.Refusals.{planned_by}
use Rattle.jsteps.proofs.ExampleLemmas.{top_inserted, small_a, small_file, small_r, small_root, small_root_top}
use Rattle.jsteps.proofs.examples.file_plans.Goals as goal

pub returns-clause-bytes : goal.returns-clause-bytes
unfolding planned_by
returns-clause-bytes c = simp (small_root, small_r, small_root_top, top_inserted) refl

pub returns-clause-none : goal.returns-clause-none
unfolding planned_by
returns-clause-none c = simp (small_root, small_r, small_root_top, top_inserted) refl

pub returns-clause-taken : goal.returns-clause-taken
unfolding planned_by
returns-clause-taken c = simp (small_root, small_a, small_file) refl

pub returns-clause-mode : goal.returns-clause-mode
unfolding planned_by
returns-clause-mode c = simp (small_root, small_r) refl
