use Rattle.std.proofs.Common.{Bool, Ok, Err, subst, sym}
use Rattle.flashbase.specs.Sinks.{change_of}
use Rattle.jedge.specs.Acts.{PutsBy}
use Rattle.jedge.specs.declared.fault.Fault.{Fault}
use Rattle.jinspects.specs.ThroughVerdict.{JudgesThrough}
use Rattle.jinspects.proofs.ThroughPutLemmas.{mounted_ended, mounted_judged}
use Rattle.jinspects.proofs.verdict.judge_mounted.Goals as goal

pub returns-in-Ok : goal.returns-in-Ok
returns-in-Ok g c = λ e size image answers.
    let s = change_of g.T.Sink c.args.sink.now c.put_mounted.new.sink in
    subst (λ (found : Bool). PutsBy (JudgesThrough e size c.args.shape image) s (Ok found)) (sym c.is_found.ensures)
    (mounted_judged e size c.args.shape image c.args.mounted.now s c.in-Ok.bad answers c.in-Ok.ensures)

pub returns-in-Err : goal.returns-in-Err
returns-in-Err g c = λ e size image answers.
    let s = change_of g.T.Sink c.args.sink.now c.put_mounted.new.sink in
    subst (λ (f : Fault). PutsBy (JudgesThrough e size c.args.shape image) s (Err f)) (sym c.of.ensures)
    (mounted_ended e size c.args.shape image c.args.mounted.now s c.in-Err.fault answers c.in-Err.ensures)
