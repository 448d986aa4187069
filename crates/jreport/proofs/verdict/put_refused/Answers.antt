use Rattle.std.proofs.Common.{ℕ, List, [], ◌∷◌, ◌++◌, ◌≡◌, ◌∙◌, subst, codes}
use Rattle.flashbase.specs.Device.{Puts}
use Rattle.jreport.specs.Faults.{mount_text}
use Rattle.jreport.specs.Verdict.{refused_line}
use Rattle.flashbase.proofs.DeviceLemmas.{first_failed, then_puts}
use Rattle.jreport.proofs.verdict.put_refused.Goals as goal

pub returns-in_err-put_text : goal.returns-in_err-put_text
unfolding refused_line
returns-in_err-put_text g c =
    let put = c.in_err-put_text.ensures.puts in
    first_failed _ _ _ _ (codes "mount refused ") (mount_text c.args.fault ++ 10 ∷ []) _ c.from_residual.ensures.0 put.0 put.1

pub returns : goal.returns
unfolding refused_line
returns g c =
    let line : c.as_slice.result.now ≡ mount_text c.args.fault ++ 10 ∷ [] = c.as_slice.ensures ∙ c.write_fault.ensures in
    let put = c.in_ok-put_text.ensures.puts in
    then_puts _ (g.T.Sink.taken c.put_text.new.sink) _ _ _ _ (codes "mount refused ") (mount_text c.args.fault ++ 10 ∷ []) _ put.0 put.1
    (subst (λ (l : List ℕ). Puts (g.T.Sink.taken c.put_text.new.sink) (g.T.Sink.taken c.put_text-2.new.sink) (g.T.Sink.failures c.put_text.new.sink)
    (g.T.Sink.failures c.put_text-2.new.sink) l c.put_text-2.result) line c.put_text-2.ensures.puts)
