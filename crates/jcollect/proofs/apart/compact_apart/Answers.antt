use Rattle.std.proofs.Common.{◌≡◌, ℕ, List, refl, sym, ap, subst}
use Rattle.std.specs.Io.KnownBytes.{Appends}
use Rattle.flashbase.specs.Sinks.{change_of}
use Rattle.jcollect.specs.Planning.{MayPut}
use Rattle.jcollect.specs.Tiles.{copied_image}
use Rattle.jcollect.proofs.ApartLemmas.{planned_apart_shows, unplanned_compacts}
use Rattle.jcollect.proofs.apart.compact_apart.Goals as goal

pub returns-in-Err-clause-compacts : goal.returns-in-Err-clause-compacts
returns-in-Err-clause-compacts g c =
    unplanned_compacts g.E.Order.order c.args.geometry.block c.args.blocks c.args.image.now (change_of g.S.Sink c.args.sink.now c.args.sink.now) c.in-Err.fault
    c.in-Err.ensures.refused (refl, refl)

pub put-requires : goal.put-requires
put-requires g c = subst (MayPut g.E.Order.order c.args.geometry.block c.args.image.now) (sym c.deref.ensures.value) c.in-Ok.ensures.may

pub returns-in-Ok-put-clause-shows : goal.returns-in-Ok-put-clause-shows
returns-in-Ok-put-clause-shows g c =
    let e = g.E.Order.order in
    let size : ℕ = c.args.geometry.block in
    let image : List ℕ = c.args.image.now in
    let planned = c.in-Ok.planned in
    let addresses : List ℕ = planned.plan.addresses.items in
    let out : copied_image e size image c.deref.result.now ≡ copied_image e size image addresses = ap (copied_image e size image) c.deref.ensures.value in (
      copied_image e size image addresses,
      planned_apart_shows e size c.args.blocks image planned.left.items addresses _ _ c.in-Ok.ensures.planned,
      subst (Appends (g.S.Sink.taken c.args.sink.now) (g.S.Sink.taken c.put.new.sink)) out c.in-Ok-put.ensures.0,
    )
