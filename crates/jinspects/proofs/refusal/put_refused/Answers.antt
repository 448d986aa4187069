use Rattle.std.proofs.Common.{ℕ, List, [], ◌∷◌, ◌++◌, codes}
use Rattle.flashbase.proofs.DeviceLemmas.{first_failed, part_before, then_failed, then_puts}
use Rattle.jreport.specs.Faults.{fault_text_of}
use Rattle.jinspects.specs.Refused.{refusal_line}
use Rattle.jinspects.proofs.refusal.put_refused.Goals as goal

pub returns-in_err-put_text : goal.returns-in_err-put_text
unfolding refusal_line
returns-in_err-put_text g c =
    let put = c.in_err-put_text.ensures.puts in
    first_failed _ _ _ _ (codes "mount refused ") (fault_text_of c.args.fault.now ++ 10 ∷ []) _ c.from_residual.ensures.0 put.0 put.1

pub returns-in_err-put_fault : goal.returns-in_err-put_fault
unfolding refusal_line
returns-in_err-put_fault g c =
    let put = c.in_ok-put_text.ensures.puts in
    let next = c.in_err-put_fault.ensures in
    then_failed _ (g.T.Sink.taken c.put_text.new.sink) _ _ _ _ (codes "mount refused ") (fault_text_of c.args.fault.now ++ 10 ∷ []) _
    c.from_residual-in_err-put_fault.ensures.0 put.0 put.1 (part_before _ _ (fault_text_of c.args.fault.now) (10 ∷ []) next.0) next.1

pub returns : goal.returns
unfolding refusal_line
returns g c =
    let put = c.in_ok-put_text.ensures.puts in
    let next = c.in_ok-put_fault.ensures in
    then_puts _ (g.T.Sink.taken c.put_text.new.sink) _ _ _ _ (codes "mount refused ") (fault_text_of c.args.fault.now ++ 10 ∷ []) _ put.0 put.1
    (then_puts _ (g.T.Sink.taken c.put_fault.new.sink) _ _ _ _ (fault_text_of c.args.fault.now) (10 ∷ []) _ next.0 next.1 c.put_text-2.ensures.puts)
