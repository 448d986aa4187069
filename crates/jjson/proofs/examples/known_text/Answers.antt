use Rattle.std.proofs.Common.{refl}
use Rattle.jjson.specs.Tables.{parameters_shapes}
use Rattle.jjson.proofs.examples.known_text.Goals as goal

pub returns : goal.returns
unfolding parameters_shapes
returns c = refl
