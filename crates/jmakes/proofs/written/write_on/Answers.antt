use Rattle.std.proofs.Common.{◌∙◌, ap, length, sym}
use Rattle.jmount.specs.Mount.{Mount}
use Rattle.jlog.specs.View.{address_of}
use Rattle.jedge.proofs.Steps.{answered, does_at, then_err, then_ok}
use Rattle.jmakes.specs.Notes.{written_told}
use Rattle.jmakes.specs.Seen.{image_to_write, note_seen, notes_seen, numbered_seen}
use Rattle.jmakes.specs.Writing.{writes_from}
use Rattle.jmakes.proofs.LineLemmas.{takes_at}
use Rattle.jmakes.proofs.written.write_on.Goals as goal

pub notes_on-requires : goal.notes_on-requires
notes_on-requires g c = ap length c.deref-2.ensures.value ∙ c.requires.numbered ∙ sym (ap length c.deref.ensures.value)

pub returns-in-Err : goal.returns-in-Err
returns-in-Err g c = then_err (answered c.in-Err.ensures.goes_on)

pub returns-in-Ok-notes_on : goal.returns-in-Ok-notes_on
returns-in-Ok-notes_on g c =
    let e = g.E.Order.order in
    let a = c.args in
    let start = c.in-Ok.start in
    then_ok (answered c.in-Ok.ensures.goes_on)
    (then_ok (answered (takes_at _ e _ c.in-Ok.ensures.flash c.in-Ok.ensures.mount c.deref.ensures.value c.in-Ok-notes_on.ensures))
    (does_at (λ (m : Mount). writes_from (image_to_write e a.image) m (numbered_seen a.of.now) (address_of start) (written_told (note_seen a.note) (notes_seen c.in-Ok-notes_on.weak)))
    c.in-Ok.ensures.mount c.write_from.ensures))

pub returns-in-Err-notes_on : goal.returns-in-Err-notes_on
returns-in-Err-notes_on g c =
    then_ok (answered c.in-Ok.ensures.goes_on)
    (then_err (answered (takes_at _ g.E.Order.order _ c.in-Ok.ensures.flash c.in-Ok.ensures.mount c.deref.ensures.value c.in-Err-notes_on.ensures)))
