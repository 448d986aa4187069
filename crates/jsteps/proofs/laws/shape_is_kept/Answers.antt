use Rattle.jsteps.proofs.ShapeBrokenLemmas.{half_rename_breaks}
use Rattle.jsteps.proofs.ShapePlanLemmas.{shape_is_kept}
use Rattle.jsteps.proofs.ShapeStateLemmas.{shape_stays, state_keeps_shape}
use Rattle.jsteps.proofs.laws.shape_is_kept.Goals as goal

pub returns : goal.returns
returns c = record { one = shape_is_kept; several = shape_stays; states = state_keeps_shape; half = half_rename_breaks }
