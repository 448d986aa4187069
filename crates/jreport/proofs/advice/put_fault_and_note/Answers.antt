use Rattle.flashbase.proofs.DeviceLemmas.{first_failed, then_puts}
use Rattle.jreport.specs.Advice.{advice_of, fault_lines_of}
use Rattle.jreport.specs.Faults.{fault_line_of}
use Rattle.jreport.proofs.advice.put_fault_and_note.Goals as goal

pub returns-in_err-put_fault_line : goal.returns-in_err-put_fault_line
unfolding fault_lines_of
returns-in_err-put_fault_line g c =
    let put = c.in_err-put_fault_line.ensures in
    first_failed _ _ _ _ (fault_line_of c.args.fault.now) (advice_of c.args.fault.now) _ c.from_residual.ensures.0 put.0 put.1

pub returns : goal.returns
unfolding fault_lines_of
returns g c =
    let put = c.in_ok-put_fault_line.ensures in
    then_puts _ (g.T.Sink.taken c.put_fault_line.new.sink) _ _ _ _ (fault_line_of c.args.fault.now) (advice_of c.args.fault.now) _ put.0 put.1 c.put_advice.ensures
