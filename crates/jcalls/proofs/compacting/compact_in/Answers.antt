use Rattle.std.proofs.Common.{◌∙◌, ap, sym, Some}
use Rattle.flashbase.specs.Sinks.{SinkChange}
use Rattle.jcalls.proofs.CompactingLemmas.{compacted, not_compacted}
use Rattle.jcalls.proofs.compacting.compact_in.Goals as goal

pub returns-in-Ok-clause-ok : goal.returns-in-Ok-clause-ok
returns-in-Ok-clause-ok g c =
    let old = c.new-sink.result in
    let new = c.compact_through.new.sink in
    let sink : SinkChange = record { old = Some old.writer.items; new = Some new.writer.items; before = old.failures; now = new.failures } in
    compacted g.E.Order.order c.args.block c.args.blocks c.args.image.now c.into_writer.result.items sink c.in-Ok.field-0 (c.new-sink.ensures.taken ∙ ap Some c.new.ensures.items) (sym c.into_writer.ensures)
    c.in-Ok.ensures.compacts c.in-Ok.ensures.shows

pub returns-in-Err-clause-err : goal.returns-in-Err-clause-err
returns-in-Err-clause-err g c =
    let old = c.new-sink.result in
    let new = c.compact_through.new.sink in
    let sink : SinkChange = record { old = Some old.writer.items; new = Some new.writer.items; before = old.failures; now = new.failures } in
    record {
      is = c.through_told.ensures.is;
      other = c.through_told.ensures.other;
      due = not_compacted g.E.Order.order c.args.block c.args.blocks c.args.image.now sink c.in-Err.why c.through_told.result c.in-Err.ensures.compacts c.through_told.ensures.told;
    }
