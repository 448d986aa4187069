use Rattle.std.proofs.Common.{ap, ◌∙◌, option_map}
use Rattle.std.specs.Prelude.{find}
use Rattle.jjson.specs.Shapes.{has_shape}
use Rattle.jjson.specs.Tables.{row_of}
use Rattle.jjson.proofs.ShapeLemmas.{find-map}
use Rattle.jjson.proofs.line.shape_of.Goals as goal

pub returns : goal.returns
returns c =
    ap (option_map row_of) c.first_of.ensures ∙ find-map row_of (has_shape c.args.line.now) c.shapes_of.result.now
    ∙ ap (find (has_shape c.args.line.now)) c.shapes_of.ensures
