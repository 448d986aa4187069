use Rattle.flashbase.proofs.DeviceLemmas.{first_failed, then_puts}
use Rattle.jhint.specs.Hints.{hint_lines}
use Rattle.jedge.specs.Told.{shown_notes}
use Rattle.jedge.proofs.reporting.put_read.Goals as goal

pub returns-in_err-put_shown : goal.returns-in_err-put_shown
returns-in_err-put_shown g c =
    let put = c.in_err-put_shown.ensures in
    let of = c.args.of in
    first_failed _ _ _ _ (shown_notes of.findings of.others) (hint_lines of.hint) _ c.from_residual.ensures.0 put.0 put.1

pub returns : goal.returns
returns g c =
    let put = c.in_ok-put_shown.ensures in
    let of = c.args.of in
    then_puts _ (g.T.Sink.taken c.put_shown.new.sink) _ _ _ _ (shown_notes of.findings of.others) (hint_lines of.hint) _ put.0 put.1 c.put_hint.ensures
