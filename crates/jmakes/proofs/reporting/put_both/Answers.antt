use Rattle.flashbase.proofs.DeviceLemmas.{first_failed, then_puts}
use Rattle.jmakes.specs.Notes.{text_or_none}
use Rattle.jmakes.specs.Seen.{note_seen}
use Rattle.jmakes.proofs.reporting.put_both.Goals as goal

pub returns-in_err-put_base : goal.returns-in_err-put_base
returns-in_err-put_base g c =
    let put = c.in_err-put_base.ensures in
    first_failed _ _ _ _ (text_or_none (note_seen c.args.note).noted) c.args.text.now _ c.from_residual.ensures.0 put.0 put.1

pub returns : goal.returns
returns g c =
    let put = c.in_ok-put_base.ensures in
    then_puts _ (g.T.Sink.taken c.put_base.new.sink) _ _ _ _ (text_or_none (note_seen c.args.note).noted) c.args.text.now _ put.0 put.1 c.put_text.ensures
