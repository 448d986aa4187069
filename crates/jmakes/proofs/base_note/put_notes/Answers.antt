use Rattle.flashbase.proofs.DeviceLemmas.{first_failed, then_puts}
use Rattle.jedge.specs.Commands.{shown_noted}
use Rattle.jmakes.specs.Notes.{attributes_noted, text_or_none}
use Rattle.jmakes.proofs.BaseLemmas.{both_put}
use Rattle.jmakes.proofs.base_note.put_notes.Goals as goal

pub returns-in_err-put_shown : goal.returns-in_err-put_shown
returns-in_err-put_shown g c =
    let put = c.in_err-put_shown.ensures in
    let shown = shown_noted c.args.note.findings c.args.note.others in
    let attributes = attributes_noted c.args.note.attributes in
    both_put _ _ _ _ shown attributes _ (first_failed _ _ _ _ (text_or_none shown) (text_or_none attributes) _ c.from_residual.ensures.0 put.0 put.1)

pub returns : goal.returns
returns g c =
    let put = c.in_ok-put_shown.ensures in
    let shown = shown_noted c.args.note.findings c.args.note.others in
    let attributes = attributes_noted c.args.note.attributes in
    both_put _ _ _ _ shown attributes _ (then_puts _ (g.T.Sink.taken c.put_shown.new.sink) _ _ _ _ (text_or_none shown) (text_or_none attributes) _ put.0 put.1 c.put_attributes.ensures)
