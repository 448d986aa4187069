use Rattle.flashbase.proofs.DeviceLemmas.{first_failed, then_puts}
use Rattle.jreport.specs.ExtractionNotes.{line_of_count}
use Rattle.jreport.specs.NamedNotes.{named_note_of, named_notes_of}
use Rattle.jreport.proofs.named_notes.put_named_notes.Goals as goal

pub returns-in_err-put_named : goal.returns-in_err-put_named
unfolding named_notes_of
returns-in_err-put_named g c =
    let put = c.in_err-put_named.ensures in
    first_failed _ _ _ _ (line_of_count (named_note_of c.args.first.now) c.args.findings) (line_of_count (named_note_of c.args.second.now) c.args.others) _
    c.from_residual.ensures.0 put.0 put.1

pub returns : goal.returns
unfolding named_notes_of
returns g c =
    let put = c.in_ok-put_named.ensures in
    then_puts _ (g.T.Sink.taken c.put_named.new.sink) _ _ _ _ (line_of_count (named_note_of c.args.first.now) c.args.findings)
    (line_of_count (named_note_of c.args.second.now) c.args.others) _ put.0 put.1 c.put_named-2.ensures
