use Rattle.std.proofs.Common.{subst, sym}
use Rattle.flashbase.specs.Sinks.{SinkChange}
use Rattle.jlog.specs.declared.fault.SessionFault.{SessionFault}
use Rattle.jbuild.specs.Emitting.{IsNotEmitted}
use Rattle.jlog.specs.declared.start.Flash.{Flash}
use Rattle.jbuild.proofs.EmitLemmas.{blocks_on, does_go_on, emitted_on, length_on, not_run, not_started, refused_on}
use Rattle.jbuild.proofs.emitting.emit.Goals as goal

pub returns-in-Err-clause-refused : goal.returns-in-Err-clause-refused
returns-in-Err-clause-refused g c =
    let a = c.args in
    not_started a.page g.E.Order.order a.geometry.block a.blocks a.mounted.now _ _ c.in-Err.fault c.in-Err.ensures.fault

pub returns-in-Ok-emit_from-clause-emitted : goal.returns-in-Ok-emit_from-clause-emitted
returns-in-Ok-emit_from-clause-emitted g c =
    let a = c.args in
    let start = c.in-Ok.start in
    let r = c.in-Ok-emit_from.done.1.report in
    let flash : Flash = record { geometry = a.geometry; blocks = a.blocks; page = a.page } in
    emitted_on g.E.Order.order start.flash flash start.mounted.now a.mounted.now a.ops.now r.accepted r.places.items r.stopped _ c.in-Ok.ensures.flash c.in-Ok.ensures.mount c.in-Ok-emit_from.ensures.emitted

pub returns-in-Ok-emit_from-clause-long : goal.returns-in-Ok-emit_from-clause-long
returns-in-Ok-emit_from-clause-long g c = λ all.
    let a = c.args in
    let start = c.in-Ok.start in
    let r = c.in-Ok-emit_from.done.1.report in
    let flash : Flash = record { geometry = a.geometry; blocks = a.blocks; page = a.page } in
    length_on g.E.Order.order start.flash flash start.mounted.now a.mounted.now a.ops.now r.accepted r.places.items c.in-Ok.ensures.flash c.in-Ok.ensures.mount (c.in-Ok-emit_from.ensures.long all)

pub returns-in-Ok-emit_from-clause-blocks : goal.returns-in-Ok-emit_from-clause-blocks
returns-in-Ok-emit_from-clause-blocks g c =
    let a = c.args in
    let start = c.in-Ok.start in
    let r = c.in-Ok-emit_from.done.1.report in
    let flash : Flash = record { geometry = a.geometry; blocks = a.blocks; page = a.page } in
    blocks_on g.E.Order.order start.flash flash start.mounted.now a.mounted.now a.ops.now r.accepted r.stopped c.in-Ok-emit_from.done.1.blocks c.in-Ok.ensures.flash c.in-Ok.ensures.mount c.in-Ok-emit_from.ensures.blocks

pub returns-in-Err-emit_from-clause-refused : goal.returns-in-Err-emit_from-clause-refused
returns-in-Err-emit_from-clause-refused g c =
    let a = c.args in
    let e = g.E.Order.order in
    let start = c.in-Ok.start in
    let fault = c.in-Err-emit_from.fault in
    let flash : Flash = record { geometry = a.geometry; blocks = a.blocks; page = a.page } in
    let sink : SinkChange = record { old = g.S.Sink.taken a.sink; new = g.S.Sink.taken c.in-Err-emit_from.sink; before = g.S.Sink.failures a.sink; now = g.S.Sink.failures c.in-Err-emit_from.sink } in
    subst (λ (f : SessionFault). IsNotEmitted a.page e a.geometry.block a.blocks a.mounted.now sink f) (sym c.from.ensures)
    (not_run a.page e a.geometry.block a.blocks a.mounted.now sink fault (does_go_on a.page e a.geometry.block a.blocks a.mounted.now start.address c.in-Ok.ensures.address)
    (refused_on e start.flash flash start.mounted.now a.mounted.now sink fault c.in-Ok.ensures.flash c.in-Ok.ensures.mount c.in-Err-emit_from.ensures.refused))
