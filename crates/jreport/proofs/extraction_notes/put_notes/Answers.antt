use Rattle.std.proofs.Common.{◌++◌}
use Rattle.flashbase.proofs.DeviceLemmas.{first_failed, then_failed, then_puts, part_before}
use Rattle.jreport.specs.ExtractionNotes.{attributes_line_of, extraction_notes_of, line_of_count, lost_bits_line_of}
use Rattle.jreport.specs.Notes.{note_line_of}
use Rattle.jreport.proofs.extraction_notes.put_notes.Goals as goal

pub returns-in_err-put_findings : goal.returns-in_err-put_findings
unfolding extraction_notes_of
returns-in_err-put_findings g c =
    let put = c.in_err-put_findings.ensures in
    first_failed _ _ _ _ (line_of_count note_line_of c.args.findings) (line_of_count lost_bits_line_of c.args.lost_bits ++ line_of_count attributes_line_of c.args.attributes) _
    c.from_residual.ensures.0 put.0 put.1

pub returns-in_err-put_lost_bits : goal.returns-in_err-put_lost_bits
unfolding extraction_notes_of
returns-in_err-put_lost_bits g c =
    let put = c.in_ok-put_findings.ensures in
    let next = c.in_err-put_lost_bits.ensures in
    then_failed _ (g.T.Sink.taken c.put_findings.new.sink) _ _ _ _ (line_of_count note_line_of c.args.findings)
    (line_of_count lost_bits_line_of c.args.lost_bits ++ line_of_count attributes_line_of c.args.attributes) _ c.from_residual-in_err-put_lost_bits.ensures.0 put.0 put.1
    (part_before _ _ (line_of_count lost_bits_line_of c.args.lost_bits) (line_of_count attributes_line_of c.args.attributes) next.0) next.1

pub returns : goal.returns
unfolding extraction_notes_of
returns g c =
    let put = c.in_ok-put_findings.ensures in
    let next = c.in_ok-put_lost_bits.ensures in
    then_puts _ (g.T.Sink.taken c.put_findings.new.sink) _ _ _ _ (line_of_count note_line_of c.args.findings)
    (line_of_count lost_bits_line_of c.args.lost_bits ++ line_of_count attributes_line_of c.args.attributes) _ put.0 put.1
    (then_puts _ (g.T.Sink.taken c.put_lost_bits.new.sink) _ _ _ _ (line_of_count lost_bits_line_of c.args.lost_bits) (line_of_count attributes_line_of c.args.attributes) _ next.0 next.1
    c.put_attributes.ensures)
