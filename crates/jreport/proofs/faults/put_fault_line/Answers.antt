use Rattle.std.proofs.Common.{[], ◌∷◌, ◌++◌}
use Rattle.std.specs.Prelude.{codes}
use Rattle.flashbase.proofs.DeviceLemmas.{part_before, first_failed, then_puts, then_failed}
use Rattle.jline.specs.Words.{in_line}
use Rattle.jreport.specs.Faults.{fault_line_of, fault_text_of}
use Rattle.jreport.proofs.faults.put_fault_line.Goals as goal

pub returns-in_err-put_text : goal.returns-in_err-put_text
unfolding fault_line_of
returns-in_err-put_text g c =
    let put = c.in_err-put_text.ensures.puts in
    first_failed _ _ _ _ (codes "jffs2_image: ") (in_line (fault_text_of c.args.fault.now) ++ 10 ∷ []) _ c.from_residual.ensures.0 put.0 put.1

pub returns-in_err-put_fault : goal.returns-in_err-put_fault
unfolding fault_line_of
returns-in_err-put_fault g c =
    let text = in_line (fault_text_of c.args.fault.now) in
    let put = c.in_ok-put_text.ensures.puts in
    let next = c.in_err-put_fault.ensures in
    then_failed _ (g.T.Sink.taken c.put_text.new.sink) _ _ _ _ (codes "jffs2_image: ") (text ++ 10 ∷ []) _ c.from_residual-in_err-put_fault.ensures.0 put.0 put.1
    (part_before _ _ text (10 ∷ []) next.0) next.1

pub returns : goal.returns
unfolding fault_line_of
returns g c =
    let text = in_line (fault_text_of c.args.fault.now) in
    let put = c.in_ok-put_text.ensures.puts in
    let next = c.in_ok-put_fault.ensures in
    then_puts _ (g.T.Sink.taken c.put_text.new.sink) _ _ _ _ (codes "jffs2_image: ") (text ++ 10 ∷ []) _ put.0 put.1
    (then_puts _ (g.T.Sink.taken c.put_fault.new.sink) _ _ _ _ text (10 ∷ []) _ next.0 next.1 c.put_text-2.ensures.puts)
