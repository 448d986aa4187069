use Rattle.std.proofs.Common.{Err, ap}
use Rattle.jreport.proofs.StreamLemmas.{unread_back, unread_failed}
use Rattle.jreport.proofs.stream.stream_lines.Goals as goal

pub returns-in-Err-clause-put : goal.returns-in-Err-clause-put
returns-in-Err-clause-put g c =
    let others = c.in-Err.ensures.no_other in
    unread_failed g.E.Order.order c.args.geometry.block _ _ (g.S.Source.rest c.args.source) c.in-Err.fault (Err c.from.result) c.from.ensures
    (λ e. others.0 (ap Err e)) (λ e. others.1 (ap Err e))

pub returns-in-Err-clause-back : goal.returns-in-Err-clause-back
returns-in-Err-clause-back g c =
    let others = c.in-Err.ensures.no_other in
    unread_back (g.S.Source.failures c.args.source) c.in-Err.fault c.from.result c.from.ensures (λ e. others.0 (ap Err e)) (λ e. others.1 (ap Err e))
