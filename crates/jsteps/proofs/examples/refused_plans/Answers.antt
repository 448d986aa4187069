use Rattle.std.proofs.Common.{refl}
use Rattle.jsteps.specs.Refusals.{planned_by}
use Rattle.jsteps.proofs.ExampleLemmas.{small_a, small_file, small_missing, small_n, small_q, small_root}
use Rattle.jsteps.proofs.examples.refused_plans.Goals as goal

pub returns-clause-below_file : goal.returns-clause-below_file
unfolding planned_by
returns-clause-below_file c = simp (small_root, small_a, small_file) refl

pub returns-clause-taken : goal.returns-clause-taken
unfolding planned_by
returns-clause-taken c = simp (small_root, small_q) refl

pub returns-clause-dangling : goal.returns-clause-dangling
unfolding planned_by
returns-clause-dangling c = simp (small_root, small_q, small_missing) refl

pub returns-clause-same_name : goal.returns-clause-same_name
unfolding planned_by
returns-clause-same_name c = simp (small_root, small_a, small_file) refl

pub returns-clause-none : goal.returns-clause-none
unfolding planned_by
returns-clause-none c = simp (small_root, small_n, small_a) refl

pub returns-clause-root : goal.returns-clause-root
unfolding planned_by
returns-clause-root c = refl

pub returns-clause-too_large : goal.returns-clause-too_large
unfolding planned_by
returns-clause-too_large c = simp (small_root, small_a, small_file) refl

pub returns-clause-target_taken : goal.returns-clause-target_taken
unfolding planned_by
returns-clause-target_taken c = simp (small_root, small_a) refl

pub returns-clause-target : goal.returns-clause-target
unfolding planned_by
returns-clause-target c = simp (small_root, small_n) refl
