use Rattle.jmount.proofs.ShapeOfLemmas.{shape_is_decided}
use Rattle.jmount.proofs.ShapePathLemmas.{shape_is_of_outline, one_path_to_each}
use Rattle.jmount.proofs.laws.shape_is_decided.Goals as goal

pub returns : goal.returns
returns c = record { computed = shape_is_decided; outline = shape_is_of_outline; paths = one_path_to_each }
