use Rattle.std.proofs.Common.{◌≡◌, ap, ◌∙◌}
use Rattle.jscan.specs.ImageLeft.{image_left}
use Rattle.jscan.specs.Scans.{image_extents}
use Rattle.jlook.proofs.SightedOfLemmas.{going_start, going_next, going_end}
use Rattle.jlook.proofs.sighted.Sighted.of.Goals as goal

pub loop-extent-init : goal.loop-extent-init
loop-extent-init g c =
    let all : image_left c.into_iter-extent-iterator.result ≡ image_extents g.E.Order.order c.args.geometry.block c.args.image.now =
    ap (λ it. image_left it) c.into_iter-extent-iterator.ensures.into_iter_gives ∙ c.in_ok-extent-items.ensures.extents in
    going_start g.E.Order.order c.args.geometry.block c.args.image.now _ c.new-sighted.result all c.new-sighted.ensures.tiles c.new-sighted.ensures.findings

pub loop-extent-preserved : goal.loop-extent-preserved
loop-extent-preserved g c =
    going_next g.E.Order.order c.args.geometry.block c.args.image.now _ (image_left c.next.new.self) c.in-Some.extent c.loop-extent.sighted c.add.new.self c.loop-extent.invariant c.in-Some.ensures.steps
    c.in_ok-add.ensures.tiles c.in_ok-add.ensures.findings

pub returns-clause-sighted : goal.returns-clause-sighted
returns-clause-sighted g c =
    going_end g.E.Order.order c.args.geometry.block c.args.image.now (image_left c.loop-extent.extent-iterator) c.loop-extent.sighted c.in_ok-extent-items.ensures.scannable c.loop-extent.invariant
    c.in-None.ensures.steps.0
