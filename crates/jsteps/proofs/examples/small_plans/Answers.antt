use Rattle.std.proofs.Common.{refl}
use Rattle.jsteps.specs.Refusals.{planned_by}
use Rattle.jsteps.proofs.ExampleLemmas.{top_inserted, small_a, small_b, small_file, small_file_top, small_missing, small_q, small_r, small_root, small_root_top}
use Rattle.jsteps.proofs.examples.small_plans.Goals as goal

pub returns-clause-create : goal.returns-clause-create
unfolding planned_by
returns-clause-create c = simp (small_root, small_r, small_root_top, top_inserted) refl

pub returns-clause-remove : goal.returns-clause-remove
unfolding planned_by
returns-clause-remove c = simp (small_root, small_q, small_missing, small_root_top) refl

pub returns-clause-rename : goal.returns-clause-rename
unfolding planned_by
returns-clause-rename c = simp (small_root, small_a, small_b, small_file, small_root_top, top_inserted) refl

pub returns-clause-link : goal.returns-clause-link
unfolding planned_by
returns-clause-link c = simp (small_root, small_a, small_b, small_file, small_root_top) refl

pub returns-clause-write : goal.returns-clause-write
unfolding planned_by
returns-clause-write c = simp (small_root, small_a, small_file, small_file_top, top_inserted) refl

pub returns-clause-cut : goal.returns-clause-cut
unfolding planned_by
returns-clause-cut c = simp (small_root, small_a, small_file, small_file_top) refl

pub returns-clause-same : goal.returns-clause-same
unfolding planned_by
returns-clause-same c = simp (small_root, small_a, small_file) refl
