use Rattle.std.proofs.Common.{refl}
use Rattle.std.specs.Fmt.{digits}
use Rattle.jjson.specs.Tables.{cuts_shapes, map_shapes}
use Rattle.jjson.proofs.examples.known_lines.Goals as goal

pub returns-clause-weak : goal.returns-clause-weak
unfolding digits cuts_shapes
returns-clause-weak c = refl

pub returns-clause-heading : goal.returns-clause-heading
unfolding map_shapes
returns-clause-heading c = refl
