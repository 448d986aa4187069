use Rattle.std.proofs.Common.{Bool, sym, subst}
use Rattle.flashbase.specs.Device.{Puts}
use Rattle.jreport.specs.Verdict.{ok_line}
use Rattle.jreport.proofs.verdict.put_ok.Goals as goal

pub returns-then-read_only : goal.returns-then-read_only
unfolding ok_line
returns-then-read_only g c =
    subst (λ (b : Bool). Puts (g.T.Sink.taken c.args.sink.now) (g.T.Sink.taken c.put_text.new.sink) (g.T.Sink.failures c.args.sink.now)
    (g.T.Sink.failures c.put_text.new.sink) (ok_line b) c.put_text.result) (sym c.if-read_only.true) c.put_text.ensures.puts
