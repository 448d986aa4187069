use Rattle.std.proofs.Common.{◌≡◌, Err, Result, Some, ℕ, refl, subst}
use Rattle.flashbase.specs.Sinks.{SinkChange}
use Rattle.jcuts.specs.Cuts.{Asked, PutsCuts}
use Rattle.jcuts.specs.declared.cuts.CutsFault.{CutsFault}
use Rattle.jcuts.specs.declared.cuts.CutsFault.TheVariants as told
use Rattle.jcuts.specs.declared.lines.Telling.TheVariants.{WeakNotes}
use Rattle.jmakes.proofs.WeakLemmas.{only_memory, told_notes}
use Rattle.jmakes.proofs.notes.notes_of.Goals as goal

pub returns-in-Ok : goal.returns-in-Ok
returns-in-Ok g c = λ taken.
    told_notes g.E.Order.order c.args.start.now.flash c.args.start.now.mounted.now c.args.ops.now
    c.args.lines.now (record { text = c.put_cuts.new.sink.bytes.items; weak = c.in-Ok.weak })
    c.new-held.result.bytes.items _ _ c.in-Ok.weak c.requires c.new-held.ensures refl
    c.in-Ok.ensures

pub returns : goal.returns
returns g c =
    let flash = c.args.start.now.flash in
    let m = c.args.start.now.mounted.now in
    let asked : Asked = record { telling = WeakNotes; ops = c.args.ops.now; lines = c.args.lines.now } in
    let sink : SinkChange = record { old = Some c.new-held.result.bytes.items; new = Some c.put_cuts.new.sink.bytes.items; before = c.new-held.result.failures; now = c.put_cuts.new.sink.failures } in
    let is : c.put_cuts.result ≡ Err (told.Session c.in-Err-Session.fault c.in-Err-Session.line c.in-Err-Session.blocks) = cc in
    let puts : PutsCuts g.E.Order.order flash m.image asked sink (Err (told.Session c.in-Err-Session.fault c.in-Err-Session.line c.in-Err-Session.blocks)) =
    subst (λ (r : Result ℕ CutsFault). PutsCuts g.E.Order.order flash m.image asked sink r) is c.put_cuts.ensures in
    λ taken. absurd (c.is_of_memory.ensures c.if-is_of_memory.false
    (only_memory g.E.Order.order flash m asked sink c.in-Err-Session.fault c.in-Err-Session.line c.in-Err-Session.blocks taken puts))
