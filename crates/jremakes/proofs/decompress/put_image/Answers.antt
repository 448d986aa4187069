use Rattle.std.proofs.Common.{Err, subst, sym}
use Rattle.jconvert.specs.Converting.{converted_image}
use Rattle.flashbase.specs.Sinks.{change_of}
use Rattle.jremakes.proofs.FaultLemmas.{owed}
use Rattle.jremakes.proofs.PuttingLemmas.{all_put, part_for_memory, part_put}
use Rattle.jremakes.specs.Putting.{PutsAll, PutsInto}
use Rattle.jremakes.specs.declared.remaking.Unput.{Unput}
use Rattle.jremakes.proofs.decompress.put_image.Goals as goal

pub returns-in-Ok : goal.returns-in-Ok
returns-in-Ok g c = all_put (converted_image g.E.Order.order c.args.geometry.block c.args.image.now)
    (tt {0}) _ c.requires.sound c.in-Ok.ensures.0 c.in-Ok.ensures.1

pub returns-in-Err : goal.returns-in-Err
returns-in-Err g c =
    let sink = change_of g.S.Sink c.args.sink.now c.write_converted.new.sink in
    let whole = converted_image g.E.Order.order c.args.geometry.block c.args.image.now in
    subst (λ (u : Unput). PutsInto (PutsAll whole (tt {0})) sink (Err u)) (sym c.unput_of.ensures)
    (owed _ _ (λ (u : Unput). PutsInto (PutsAll whole (tt {0})) sink (Err u)) c.in-Err.fault
    c.in-Err.ensures (λ is. part_put whole (tt {0}) sink c.requires.sound is.0 is.1)
    (λ is. part_for_memory whole (tt {0}) sink c.requires.sound is.0 is.1))
