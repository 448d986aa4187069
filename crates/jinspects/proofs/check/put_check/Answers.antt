use Rattle.std.proofs.Common.{Ok, subst, sym}
use Rattle.flashbase.specs.Sinks.{change_of}
use Rattle.jedge.specs.Acts.{PutsBy}
use Rattle.jedge.specs.Told.{Told}
use Rattle.jinspects.specs.ThroughVerdict.{ChecksThrough}
use Rattle.jinspects.proofs.ThroughPutLemmas.{check_ended, check_put}
use Rattle.jinspects.proofs.check.put_check.Goals as goal

pub returns-in-Ok-put_verdict : goal.returns-in-Ok-put_verdict
returns-in-Ok-put_verdict g c =
    let s = change_of g.T.Sink c.args.sink.now c.put_verdict.new.sink in
    subst (λ (t : Told). PutsBy (ChecksThrough g.E.Order.order c.args.geometry.block c.args.shape c.args.image.now) s (Ok t)) (sym c.found_checked.ensures)
    (check_put g.E.Order.order c.args.geometry.block c.args.shape c.args.image.now
    (g.T.Sink.taken c.args.sink.now) (g.T.Sink.taken c.put_report.new.sink) (g.T.Sink.taken c.put_verdict.new.sink)
    (g.T.Sink.failures c.args.sink.now) (g.T.Sink.failures c.put_report.new.sink) (g.T.Sink.failures c.put_verdict.new.sink)
    c.in-Ok.field-0 c.in-Ok-put_verdict.bad c.in-Ok.ensures c.in-Ok-put_verdict.ensures)

pub returns-in-Err : goal.returns-in-Err
returns-in-Err g c =
    check_ended g.E.Order.order c.args.geometry.block c.args.shape c.args.image.now
    (g.T.Sink.taken c.args.sink.now) (g.T.Sink.taken c.put_report.new.sink) (g.T.Sink.taken c.put_verdict.new.sink)
    (g.T.Sink.failures c.args.sink.now) (g.T.Sink.failures c.put_report.new.sink) (g.T.Sink.failures c.put_verdict.new.sink)
    c.in-Ok.field-0 c.in-Err.fault c.in-Ok.ensures c.in-Err.ensures
