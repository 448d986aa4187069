use Rattle.flashbase.proofs.DeviceLemmas.{first_failed, then_puts}
use Rattle.jreport.specs.ExtractionNotes.{line_of_count}
use Rattle.jreport.specs.NoNodes.{none_line_of, none_notes_of}
use Rattle.jreport.specs.Notes.{note_line_of}
use Rattle.jreport.proofs.no_nodes.put_none_notes.Goals as goal

pub returns-in_err-put_some : goal.returns-in_err-put_some
unfolding none_notes_of
returns-in_err-put_some g c =
    let put = c.in_err-put_some.ensures in
    first_failed _ _ _ _ (line_of_count note_line_of c.args.findings) (none_line_of c.args.others) _ c.from_residual.ensures.0 put.0 put.1

pub returns : goal.returns
unfolding none_notes_of
returns g c =
    let put = c.in_ok-put_some.ensures in
    then_puts _ (g.T.Sink.taken c.put_some.new.sink) _ _ _ _ (line_of_count note_line_of c.args.findings) (none_line_of c.args.others) _ put.0 put.1 c.put_none.ensures
