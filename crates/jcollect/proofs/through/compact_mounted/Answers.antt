use Rattle.std.proofs.Common.{◌≡◌, ℕ, List, sym, ap₂, subst}
use Rattle.std.specs.Io.KnownBytes.{Appends}
use Rattle.jcollect.specs.Planning.{MayPut}
use Rattle.jcollect.specs.Tiles.{copied_image}
use Rattle.jcollect.proofs.CompactThroughLemmas.{planned_through, planned_shows}
use Rattle.jcollect.proofs.through.compact_mounted.Goals as goal

pub put-requires : goal.put-requires
put-requires g c =
    let e = g.E.Order.order in
    let size : ℕ = c.args.geometry.block in
    subst (λ (image : List ℕ). MayPut e size image c.deref.result.now) (sym c.image.ensures)
    (subst (MayPut e size c.args.mounted.now.image) (sym c.deref.ensures.value)
    (planned_through e size c.args.blocks c.args.mounted.now _ _ _ c.in-Ok.ensures.planned))

pub returns-in-Ok-put-clause-shows : goal.returns-in-Ok-put-clause-shows
returns-in-Ok-put-clause-shows g c =
    let e = g.E.Order.order in
    let size : ℕ = c.args.geometry.block in
    let image : List ℕ = c.args.mounted.now.image in
    let addresses : List ℕ = c.in-Ok.plan.addresses.items in
    let out : copied_image e size c.image.result.now c.deref.result.now ≡ copied_image e size image addresses =
    ap₂ (λ (bytes places : List ℕ). copied_image e size bytes places) c.image.ensures c.deref.ensures.value in (
      copied_image e size image addresses,
      planned_shows e size c.args.blocks c.args.contents.now c.args.mounted.now addresses _ _ c.requires c.in-Ok.ensures.planned,
      subst (Appends (g.S.Sink.taken c.args.sink.now) (g.S.Sink.taken c.put.new.sink)) out c.in-Ok-put.ensures.0,
    )
