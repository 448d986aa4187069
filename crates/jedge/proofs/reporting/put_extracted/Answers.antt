use Rattle.flashbase.proofs.DeviceLemmas.{first_failed, then_puts}
use Rattle.jhint.specs.Hints.{hint_lines}
use Rattle.jreport.specs.ExtractionNotes.{extraction_notes_of}
use Rattle.jedge.proofs.reporting.put_extracted.Goals as goal

pub returns-in_err-put_notes : goal.returns-in_err-put_notes
returns-in_err-put_notes g c =
    let put = c.in_err-put_notes.ensures in
    let of = c.args.of in
    first_failed _ _ _ _ (extraction_notes_of of.findings of.lost_bits of.attributes) (hint_lines of.hint) _ c.from_residual.ensures.0 put.0 put.1

pub returns : goal.returns
returns g c =
    let put = c.in_ok-put_notes.ensures in
    let of = c.args.of in
    then_puts _ (g.T.Sink.taken c.put_notes.new.sink) _ _ _ _ (extraction_notes_of of.findings of.lost_bits of.attributes) (hint_lines of.hint) _ put.0 put.1
    c.put_hint.ensures
