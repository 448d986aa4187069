use Rattle.std.proofs.Common.{◌≢◌, rules, subst}
use Rattle.jmount.specs.Mounts.{Answers}
use Rattle.jmount.specs.declared.fault.MountFault.TheVariants as mount
use Rattle.jreport.proofs.VerdictLemmas.{refused_failed, verdict_of_mounted}
use Rattle.jreport.proofs.verdict.put_verdict.Goals as goal

pub returns-in_err-put_refused-in-Err : goal.returns-in_err-put_refused-in-Err
returns-in_err-put_refused-in-Err g c = λ e size image answers.
    let put = c.in_err-put_refused-in-Err.ensures in
    let memory : c.in-Err.fault ≢ mount.OutOfMemory = search rules in
    refused_failed e size image c.args.asked c.in-Err.fault _ _ _ _ _ c.from_residual.ensures.1 (subst (Answers e size image) c.in-Err.is answers) memory put.0 put.1

pub returns-in-Ok : goal.returns-in-Ok
returns-in-Ok g c = λ e size image answers.
    verdict_of_mounted e size image c.args.asked c.in-Ok.mounted (g.T.Sink.taken c.args.sink.now) (g.T.Sink.taken c.put_mounted.new.sink)
    (g.T.Sink.failures c.args.sink.now) (g.T.Sink.failures c.put_mounted.new.sink) c.put_mounted.result (subst (Answers e size image) c.in-Ok.is answers) c.put_mounted.ensures
