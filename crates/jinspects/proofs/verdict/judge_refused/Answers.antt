use Rattle.std.proofs.Common.{subst}
use Rattle.std.specs.Io.KnownBytes.{Appends}
use Rattle.flashbase.specs.Device.{PutsPart}
use Rattle.flashbase.specs.Sinks.{change_of}
use Rattle.jreport.specs.declared.faults.ProgramFault.{ProgramFault}
use Rattle.jinspects.specs.Refused.{refusal_line}
use Rattle.jinspects.proofs.ThroughPutLemmas.{refused_ended, refused_judged}
use Rattle.jinspects.proofs.verdict.judge_refused.Goals as goal

pub returns-in-Ok : goal.returns-in-Ok
returns-in-Ok g c = λ e size shape image answers.
    let s = change_of g.T.Sink c.args.sink.now c.put_refused.new.sink in
    refused_judged e size shape image c.args.why s answers c.in_default.not-OutOfMemory
    (subst (λ (f : ProgramFault). Appends s.old s.new (refusal_line f)) c.view_refusal.ensures c.in-Ok.ensures.0) c.in-Ok.ensures.1

pub returns-in-Err : goal.returns-in-Err
returns-in-Err g c = λ e size shape image answers.
    let s = change_of g.T.Sink c.args.sink.now c.put_refused.new.sink in
    refused_ended e size shape image c.args.why s answers c.in_default.not-OutOfMemory
    (subst (λ (f : ProgramFault). PutsPart s.old s.new (refusal_line f)) c.view_refusal.ensures c.in-Err.ensures.0) c.in-Err.ensures.1
