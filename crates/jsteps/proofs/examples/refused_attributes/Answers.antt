use Rattle.std.proofs.Common.{refl}
use Rattle.jsteps.specs.Refusals.{planned_by}
use Rattle.jsteps.proofs.ExampleLemmas.{small_a, small_file, small_missing, small_n, small_q, small_root}
use Rattle.jsteps.proofs.examples.refused_attributes.Goals as goal

pub returns-clause-relative : goal.returns-clause-relative
unfolding planned_by
returns-clause-relative c = refl

pub returns-clause-dangling : goal.returns-clause-dangling
unfolding planned_by
returns-clause-dangling c = simp (small_root, small_q, small_missing) refl

pub returns-clause-none : goal.returns-clause-none
unfolding planned_by
returns-clause-none c = simp (small_root, small_n) refl

pub returns-clause-below_file : goal.returns-clause-below_file
unfolding planned_by
returns-clause-below_file c = simp (small_root, small_a, small_file) refl

pub returns-clause-mode : goal.returns-clause-mode
unfolding planned_by
returns-clause-mode c = simp (small_root, small_a, small_file) refl
