use Rattle.std.proofs.Common.{Err, subst, sym}
use Rattle.flashbase.specs.Sinks.{change_of}
use Rattle.jremakes.proofs.FaultLemmas.{owed}
use Rattle.jremakes.proofs.PuttingLemmas.{packed_for_memory, packed_part, packed_put}
use Rattle.jremakes.specs.Putting.{PutsCompressed, PutsInto}
use Rattle.jremakes.specs.declared.remaking.Unput.{Unput}
use Rattle.jremakes.proofs.compress.put_image.Goals as goal

pub returns-in-Ok : goal.returns-in-Ok
returns-in-Ok g c =
    let put = c.in-Ok.ensures.0 in
    packed_put g.E.Order.order c.args.geometry.block c.args.image.now put.0 c.in-Ok.done _
    c.requires.sound put.1 put.2 put.3 c.in-Ok.ensures.1

pub returns-in-Err : goal.returns-in-Err
returns-in-Err g c =
    let sink = change_of g.S.Sink c.args.sink.now c.write_packed.new.sink in
    let e = g.E.Order.order in
    let size = c.args.geometry.block in
    let image = c.args.image.now in
    subst (λ (u : Unput). PutsInto (PutsCompressed e size image) sink (Err u)) (sym c.unput_of.ensures)
    (owed _ _ (λ (u : Unput). PutsInto (PutsCompressed e size image) sink (Err u)) c.in-Err.fault
    c.in-Err.ensures (λ is. packed_part e size image sink c.requires.sound is.0 is.1)
    (λ is. packed_for_memory e size image sink c.requires.sound is.0 is.1))
