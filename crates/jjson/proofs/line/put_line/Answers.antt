use Rattle.std.proofs.Common.{ℕ, List, ap, subst, Option}
use Rattle.flashbase.specs.Device.{Puts}
use Rattle.jjson.specs.Shapes.{Shape, has_shape}
use Rattle.jjson.specs.Tables.{row_of, shapes}
use Rattle.jjson.specs.Texts.{json_line_by}
use Rattle.jjson.proofs.ShapeLemmas.{found_passes}
use Rattle.jjson.proofs.line.put_line.Goals as goal

pub put_shaped-requires-clause-fits : goal.put_shaped-requires-clause-fits
put_shaped-requires-clause-fits g c =
    found_passes (has_shape c.args.line.now) (shapes c.args.lines) (row_of c.in-Some.shape) c.in-Some.ensures

pub returns-in-None-clause-puts : goal.returns-in-None-clause-puts
returns-in-None-clause-puts g c =
    subst (λ (l : List ℕ). Puts (g.T.Sink.taken c.args.sink.now) (g.T.Sink.taken c.put_unshaped.new.sink) (g.T.Sink.failures c.args.sink.now)
    (g.T.Sink.failures c.put_unshaped.new.sink) l c.put_unshaped.result) (ap (λ (o : Option Shape). json_line_by o c.args.line.now) c.in-None.ensures)
    c.put_unshaped.ensures
