use Rattle.std.proofs.Common.{refl}
use Rattle.jsteps.specs.Refusals.{planned_by}
use Rattle.jsteps.proofs.ExampleLemmas.{nested_d, nested_d_e, nested_directory, nested_e, nested_root}
use Rattle.jsteps.proofs.examples.refused_of_directories.Goals as goal

pub returns-clause-into_itself : goal.returns-clause-into_itself
unfolding planned_by
returns-clause-into_itself c = simp (nested_root, nested_d, nested_directory, nested_d_e) refl

pub returns-clause-bytes : goal.returns-clause-bytes
unfolding planned_by
returns-clause-bytes c = simp (nested_root, nested_d, nested_directory) refl

pub returns-clause-link : goal.returns-clause-link
unfolding planned_by
returns-clause-link c = simp (nested_root, nested_d, nested_directory, nested_e) refl
