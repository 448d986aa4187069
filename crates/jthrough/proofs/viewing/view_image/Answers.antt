use Rattle.std.proofs.Common.{◌≡◌, ℕ, Option, ap, sym, subst, ◌∙◌}
use Rattle.std.specs.Prelude.{IfSome}
use Rattle.jscan.specs.ImageLeft.{image_left}
use Rattle.jscan.specs.Scans.{image_extents}
use Rattle.jthrough.specs.MountsThrough.{AnswersAlone}
use Rattle.jthrough.specs.declared.fault.ViewFault.{ViewFault}
use Rattle.jthrough.proofs.ViewLemmas.{Found, viewing_start, viewing_found, viewing_skip, viewing_sighted, viewing_next, viewing_refused, sighted_tile, sighted_none, refused_some, refused_none, refused_alone}
use Rattle.jthrough.proofs.viewing.view_image.Goals as goal

pub loop-extent-init : goal.loop-extent-init
loop-extent-init g c =
    let all : image_left c.into_iter-extent-iterator.result ≡ image_extents g.E.Order.order c.args.geometry.block c.args.image.now =
    ap (λ it. image_left it) c.into_iter-extent-iterator.ensures.into_iter_gives ∙ c.in_ok-extent-items.ensures.extents in
    viewing_start g.E.Order.order c.args.geometry.block c.args.image.now _ c.new-view.result c.clear.new.self.items all c.new-view.ensures c.clear.ensures.items

pub take_tile-requires-clause-sighted : goal.take_tile-requires-clause-sighted
take_tile-requires-clause-sighted g c =
    let e = g.E.Order.order in
    let size : ℕ = c.args.geometry.block in
    let f : Found e size c.args.image.now c.in-Some.extent (image_left c.next.new.self) c.add_finding.new.self c.loop-extent.contents.items =
    viewing_found e size c.args.image.now _ (image_left c.next.new.self) c.in-Some.extent c.loop-extent.view c.add_finding.new.self c.loop-extent.contents.items c.loop-extent.invariant c.in-Some.ensures.steps
    c.in_ok-add_finding.ensures.found c.in_ok-add_finding.ensures.tiles c.in_ok-add_finding.ensures.read_only c.in_ok-add_finding.ensures.refused in
    viewing_sighted e size c.args.image.now c.in-Some.extent (image_left c.next.new.self) (c.in-Some.extent.addr, c.in-Tiled.seen) c.add_finding.new.self c.loop-extent.contents.items f
    (sighted_tile c.in-Some.extent c.in-Tiled.seen c.in-Tiled.is)

pub returns-then-is_some-clause-view : goal.returns-then-is_some-clause-view
returns-then-is_some-clause-view g c =
    let e = g.E.Order.order in
    let size : ℕ = c.args.geometry.block in
    let f : Found e size c.args.image.now c.in-Some.extent (image_left c.next.new.self) c.add_finding.new.self c.loop-extent.contents.items =
    viewing_found e size c.args.image.now _ (image_left c.next.new.self) c.in-Some.extent c.loop-extent.view c.add_finding.new.self c.loop-extent.contents.items c.loop-extent.invariant c.in-Some.ensures.steps
    c.in_ok-add_finding.ensures.found c.in_ok-add_finding.ensures.tiles c.in_ok-add_finding.ensures.read_only c.in_ok-add_finding.ensures.refused in
    let why = refused_some c.take_tile.new.view.refused c.is_some.result c.is_some.ensures c.if-is_some.true in
    viewing_refused e size c.args.image.now c.in-Some.extent (image_left c.next.new.self) (c.in-Some.extent.addr, c.in-Tiled.seen) c.add_finding.new.self c.take_tile.new.view
    c.loop-extent.contents.items c.take_tile.new.contents.items why.0 c.in_ok-extent-items.ensures.scannable f (sighted_tile c.in-Some.extent c.in-Tiled.seen c.in-Tiled.is)
    c.in_ok-take_tile.ensures why.1

pub returns-then-is_some-clause-refused : goal.returns-then-is_some-clause-refused
returns-then-is_some-clause-refused g c =
    let e = g.E.Order.order in
    let size : ℕ = c.args.geometry.block in
    let f : Found e size c.args.image.now c.in-Some.extent (image_left c.next.new.self) c.add_finding.new.self c.loop-extent.contents.items =
    viewing_found e size c.args.image.now _ (image_left c.next.new.self) c.in-Some.extent c.loop-extent.view c.add_finding.new.self c.loop-extent.contents.items c.loop-extent.invariant c.in-Some.ensures.steps
    c.in_ok-add_finding.ensures.found c.in_ok-add_finding.ensures.tiles c.in_ok-add_finding.ensures.read_only c.in_ok-add_finding.ensures.refused in
    let why = refused_some c.take_tile.new.view.refused c.is_some.result c.is_some.ensures c.if-is_some.true in
    subst (λ (o : Option ViewFault). IfSome o (AnswersAlone e size c.args.image.now)) (sym why.1)
    (refused_alone e size c.args.image.now c.in-Some.extent (image_left c.next.new.self) (c.in-Some.extent.addr, c.in-Tiled.seen) c.add_finding.new.self c.take_tile.new.view
    c.loop-extent.contents.items c.take_tile.new.contents.items why.0 c.in_ok-extent-items.ensures.scannable f (sighted_tile c.in-Some.extent c.in-Tiled.seen c.in-Tiled.is)
    c.in_ok-take_tile.ensures why.1)

pub loop-extent-preserved-else-is_some : goal.loop-extent-preserved-else-is_some
loop-extent-preserved-else-is_some g c =
    let e = g.E.Order.order in
    let size : ℕ = c.args.geometry.block in
    let f : Found e size c.args.image.now c.in-Some.extent (image_left c.next.new.self) c.add_finding.new.self c.loop-extent.contents.items =
    viewing_found e size c.args.image.now _ (image_left c.next.new.self) c.in-Some.extent c.loop-extent.view c.add_finding.new.self c.loop-extent.contents.items c.loop-extent.invariant c.in-Some.ensures.steps
    c.in_ok-add_finding.ensures.found c.in_ok-add_finding.ensures.tiles c.in_ok-add_finding.ensures.read_only c.in_ok-add_finding.ensures.refused in
    viewing_next e size c.args.image.now c.in-Some.extent (image_left c.next.new.self) (c.in-Some.extent.addr, c.in-Tiled.seen) c.add_finding.new.self c.take_tile.new.view
    c.loop-extent.contents.items c.take_tile.new.contents.items f (sighted_tile c.in-Some.extent c.in-Tiled.seen c.in-Tiled.is) c.in_ok-take_tile.ensures
    (refused_none c.take_tile.new.view.refused c.is_some.result c.is_some.ensures c.if-is_some.false)

pub loop-extent-preserved : goal.loop-extent-preserved
loop-extent-preserved g c =
    let e = g.E.Order.order in
    let size : ℕ = c.args.geometry.block in
    let f : Found e size c.args.image.now c.in-Some.extent (image_left c.next.new.self) c.add_finding.new.self c.loop-extent.contents.items =
    viewing_found e size c.args.image.now _ (image_left c.next.new.self) c.in-Some.extent c.loop-extent.view c.add_finding.new.self c.loop-extent.contents.items c.loop-extent.invariant c.in-Some.ensures.steps
    c.in_ok-add_finding.ensures.found c.in_ok-add_finding.ensures.tiles c.in_ok-add_finding.ensures.read_only c.in_ok-add_finding.ensures.refused in
    viewing_skip e size c.args.image.now c.in-Some.extent (image_left c.next.new.self) c.add_finding.new.self c.loop-extent.contents.items f
    (sighted_none c.in-Some.extent.addr c.in-Some.extent.kind c.in_default.not-Tiled)
