use Rattle.std.proofs.Common.{rules, ◌≤◌, ◌+◌, ap, ◌∙◌, arith, length}
use Rattle.jscan.specs.ImageLeft.{image_left}
use Rattle.jexpand.specs.Expanded.{tile_content}
use Rattle.jpacked.proofs.CountLemmas.{counting_start, counting_sighted, counting_sound, counting_small, counting_next, counting_skip, counting_end}
use Rattle.jpacked.proofs.content.contents_len.Goals as goal

pub loop-extent-init : goal.loop-extent-init
loop-extent-init g c =
    counting_start g.E.Order.order c.args.geometry.block c.args.image.now _
    (ap (λ it. image_left it) c.into_iter-extent-iterator.ensures.into_iter_gives ∙ c.in-Ok.ensures.extents)

pub tile_len-requires-clause-readable : goal.tile_len-requires-clause-readable
tile_len-requires-clause-readable g c = c.requires.scannable.0

pub tile_len-requires-clause-sighted : goal.tile_len-requires-clause-sighted
tile_len-requires-clause-sighted g c =
    counting_sighted g.E.Order.order c.args.geometry.block c.args.image.now _ (image_left c.next.new.self) c.in-Some.extent c.in-Tiled.seen c.loop-extent.sum c.loop-extent.invariant c.in-Some.ensures.steps c.in-Tiled.is

pub tile_len-requires-clause-none : goal.tile_len-requires-clause-none
tile_len-requires-clause-none g c =
    counting_sound g.E.Order.order c.args.geometry.block c.args.image.now _ c.requires
    (counting_sighted g.E.Order.order c.args.geometry.block c.args.image.now _ (image_left c.next.new.self) c.in-Some.extent c.in-Tiled.seen c.loop-extent.sum c.loop-extent.invariant c.in-Some.ensures.steps c.in-Tiled.is)

pub loop-extent-preserved-in-Tiled : goal.loop-extent-preserved-in-Tiled
loop-extent-preserved-in-Tiled g c =
    counting_next g.E.Order.order c.args.geometry.block c.args.image.now _ (image_left c.next.new.self) c.in-Some.extent c.in-Tiled.seen c.loop-extent.sum c.tile_len.result c.loop-extent.invariant c.in-Some.ensures.steps c.in-Tiled.is c.tile_len.ensures

pub loop-extent-preserved : goal.loop-extent-preserved
loop-extent-preserved g c =
    counting_skip g.E.Order.order c.args.geometry.block c.args.image.now _ (image_left c.next.new.self) c.in-Some.extent c.loop-extent.sum c.loop-extent.invariant c.in-Some.ensures.steps c.in_default.not-Tiled

pub overflow_add-sum : goal.overflow_add-sum
overflow_add-sum g c =
    let small : c.loop-extent.sum + length (tile_content g.E.Order.order c.args.geometry.block c.args.image.now (c.in-Some.extent.addr, c.in-Tiled.seen)) ≤ 1073741824 =
    counting_small g.E.Order.order c.args.geometry.block c.args.image.now _ (image_left c.next.new.self) c.in-Some.extent c.in-Tiled.seen c.loop-extent.sum c.requires c.loop-extent.invariant c.in-Some.ensures.steps c.in-Tiled.is in
    let far : c.loop-extent.sum + c.tile_len.result ≤ 1073741824 = omega (arith, small, c.tile_len.ensures) in
    search (rules, far)

pub overflow_cast-sum : goal.overflow_cast-sum
overflow_cast-sum g c =
    let small : c.loop-extent.sum + length (tile_content g.E.Order.order c.args.geometry.block c.args.image.now (c.in-Some.extent.addr, c.in-Tiled.seen)) ≤ 1073741824 =
    counting_small g.E.Order.order c.args.geometry.block c.args.image.now _ (image_left c.next.new.self) c.in-Some.extent c.in-Tiled.seen c.loop-extent.sum c.requires c.loop-extent.invariant c.in-Some.ensures.steps c.in-Tiled.is in
    let far : c.tile_len.result ≤ 1073741824 = omega (arith, small, c.tile_len.ensures) in
    search (rules, far)

pub returns : goal.returns
returns g c =
    counting_end g.E.Order.order c.args.geometry.block c.args.image.now _ c.loop-extent.sum c.loop-extent.invariant c.in-None.ensures.steps.0
