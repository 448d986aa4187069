use Rattle.std.proofs.Common.{◌∙◌, Err, subst, sym}
use Rattle.jconvert.proofs.ApartLemmas.{end_is_long}
use Rattle.flashbase.specs.Sinks.{change_of}
use Rattle.jremakes.proofs.FaultLemmas.{owed}
use Rattle.jremakes.proofs.PuttingLemmas.{nodes_for_memory, nodes_part, nodes_put}
use Rattle.jremakes.specs.Putting.{PutsInto, PutsNodes}
use Rattle.jremakes.specs.declared.remaking.Unput.{Unput}
use Rattle.jremakes.proofs.apart.put_image.Goals as goal

pub returns-in-Ok : goal.returns-in-Ok
returns-in-Ok g c =
    let e = g.E.Order.order in
    let size = c.args.geometry.block in
    let stay = c.args.parted.now.stay.items in
    let long = end_is_long e size c.args.image.now stay c.args.parted.now.left.items
    c.requires.accepted c.requires.parts in
    let put = rw c.as_slice.ensures.value at c.in-Ok.ensures in
    nodes_put e size c.in-Ok.end stay _ c.requires.sound put.0 put.1 (put.2 ∙ long) put.3

pub returns-in-Err : goal.returns-in-Err
returns-in-Err g c =
    let sink = change_of g.S.Sink c.args.sink.now c.write_nodes.new.sink in
    let e = g.E.Order.order in
    let size = c.args.geometry.block in
    let stay = c.args.parted.now.stay.items in
    let put = rw c.as_slice.ensures.value at c.in-Err.ensures in
    subst (λ (u : Unput). PutsInto (PutsNodes e size stay) sink (Err u)) (sym c.unput_of.ensures)
    (owed _ _ (λ (u : Unput). PutsInto (PutsNodes e size stay) sink (Err u)) c.in-Err.fault put
    (λ is. nodes_part e size stay sink c.requires.sound is.0 is.1)
    (λ is. nodes_for_memory e size stay sink c.requires.sound is.0 is.1))
