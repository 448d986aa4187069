use Rattle.std.proofs.Common.{Bool, sym, subst}
use Rattle.flashbase.specs.Device.{Puts}
use Rattle.jreport.specs.Verdict.{shape_line}
use Rattle.jreport.proofs.verdict.put_shape_line.Goals as goal

pub returns-then-shape : goal.returns-then-shape
unfolding shape_line
returns-then-shape g c =
    subst (λ (b : Bool). Puts (g.T.Sink.taken c.args.sink.now) (g.T.Sink.taken c.put_text.new.sink) (g.T.Sink.failures c.args.sink.now)
    (g.T.Sink.failures c.put_text.new.sink) (shape_line b) c.put_text.result) (sym c.if-shape.true) c.put_text.ensures.puts

pub returns-else-shape : goal.returns-else-shape
unfolding shape_line
returns-else-shape g c =
    subst (λ (b : Bool). Puts (g.T.Sink.taken c.args.sink.now) (g.T.Sink.taken c.put_text-else-shape.new.sink) (g.T.Sink.failures c.args.sink.now)
    (g.T.Sink.failures c.put_text-else-shape.new.sink) (shape_line b) c.put_text-else-shape.result) (sym c.if-shape.false) c.put_text-else-shape.ensures.puts
