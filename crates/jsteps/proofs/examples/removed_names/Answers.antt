use Rattle.std.proofs.Common.{refl}
use Rattle.jsteps.specs.Refusals.{planned_by}
use Rattle.jsteps.proofs.ExampleLemmas.{small_a, small_file, small_missing, small_n, small_q, small_root, small_root_top, nested_d, nested_directory, nested_names, nested_root}
use Rattle.jsteps.proofs.examples.removed_names.Goals as goal

pub returns-clause-here : goal.returns-clause-here
unfolding planned_by
returns-clause-here c = simp (small_root, small_q, small_missing, small_root_top) refl

pub returns-clause-gone : goal.returns-clause-gone
unfolding planned_by
returns-clause-gone c = simp (small_root, small_n) refl

pub returns-clause-none : goal.returns-clause-none
unfolding planned_by
returns-clause-none c = simp (small_root, small_n) refl

pub returns-clause-no_way : goal.returns-clause-no_way
unfolding planned_by
returns-clause-no_way c = simp (small_root, small_n) refl

pub returns-clause-below_file : goal.returns-clause-below_file
unfolding planned_by
returns-clause-below_file c = simp (small_root, small_a, small_file) refl

pub returns-clause-not_empty : goal.returns-clause-not_empty
unfolding planned_by
returns-clause-not_empty c = simp (nested_root, nested_d, nested_directory, nested_names) refl

pub returns-clause-root : goal.returns-clause-root
unfolding planned_by
returns-clause-root c = refl
