use Rattle.std.proofs.Common.{refl}
use Rattle.jsteps.specs.Refusals.{planned_by}
use Rattle.jsteps.proofs.ExampleLemmas.{top_inserted, spent_a, spent_file, spent_file_top, spent_r, spent_root, used_up_a, used_up_file, used_up_file_top, used_up_root}
use Rattle.jsteps.proofs.examples.spent_plans.Goals as goal

pub returns-clause-number : goal.returns-clause-number
unfolding planned_by
returns-clause-number c = simp (spent_root, spent_r) refl

pub returns-clause-last : goal.returns-clause-last
unfolding planned_by
returns-clause-last c = simp (spent_root, spent_a, spent_file, spent_file_top) refl

pub returns-clause-version : goal.returns-clause-version
unfolding planned_by
returns-clause-version c = simp (spent_root, spent_a, spent_file, spent_file_top, top_inserted) refl

pub returns-clause-attributes : goal.returns-clause-attributes
unfolding planned_by
returns-clause-attributes c = simp (used_up_root, used_up_a, used_up_file, used_up_file_top) refl
