use Rattle.std.proofs.Common.{List, length, ap, ◌∙◌, subst}
use Rattle.std.specs.Io.KnownBytes.{Appends}
use Rattle.std.specs.List.{flat_map}
use Rattle.jline.proofs.TurnLemmas.{item_failed}
use Rattle.jscan.specs.Extents.{extents}
use Rattle.jscan.specs.ExtentsLeft.{extents_left}
use Rattle.jscan.specs.declared.extent.Extent.{Extent}
use Rattle.jmap.specs.Picture.{rect_text}
use Rattle.jmap.proofs.TurnLemmas.{turn, all_given, short_title, starts_inside, extents_put}
use Rattle.jmap.proofs.picture.put_rects.Goals as goal

pub put_rect-requires-clause-name : goal.put_rect-requires-clause-name
put_rect-requires-clause-name g c =
    let all = extents g.E.Order.order c.args.start c.args.block in
    let here = turn extents_left _ _ c.next.new.self all c.loop-extent.yielded _ c.in-Some.extent
    (ap extents_left c.into_iter-extent-iterator.ensures.into_iter_gives ∙ c.of_part-extent-items.ensures) c.loop-extent.yielded_by c.in-Some.is c.next.ensures.steps in
    short_title g.E.Order.order c.args.start c.args.block c.loop-extent.yielded here.rest c.in-Some.extent c.requires.whole_words here.split

pub put_rect-requires-clause-inside : goal.put_rect-requires-clause-inside
put_rect-requires-clause-inside g c =
    let all = extents g.E.Order.order c.args.start c.args.block in
    let here = turn extents_left _ _ c.next.new.self all c.loop-extent.yielded _ c.in-Some.extent
    (ap extents_left c.into_iter-extent-iterator.ensures.into_iter_gives ∙ c.of_part-extent-items.ensures) c.loop-extent.yielded_by c.in-Some.is c.next.ensures.steps in
    starts_inside g.E.Order.order c.args.start c.args.block c.loop-extent.yielded here.rest c.in-Some.extent here.split

pub loop-extent-preserved : goal.loop-extent-preserved
loop-extent-preserved g c =
    let put = c.in_ok-put_rect.ensures in
    let before = c.loop-extent.invariant in
    record {
      put = extents_put (rect_text g.E.Order.order c.args.image.now c.args.start c.args.kept.now c.args.paths.now) c.loop-extent.yielded c.in-Some.extent _ _ _ before.put put.0;
      failed = put.1 ∙ before.failed;
    }

pub returns-in_err-put_rect : goal.returns-in_err-put_rect
returns-in_err-put_rect g c =
    let put = c.in_err-put_rect.ensures in
    let before = c.loop-extent.invariant in
    let xs = c.loop-extent.yielded in
    let f = rect_text g.E.Order.order c.args.image.now c.args.start c.args.kept.now c.args.paths.now in
    let all = extents g.E.Order.order c.args.start c.args.block in
    let here = turn extents_left _ _ c.next.new.self all xs _ c.in-Some.extent
    (ap extents_left c.into_iter-extent-iterator.ensures.into_iter_gives ∙ c.of_part-extent-items.ensures) c.loop-extent.yielded_by c.in-Some.is c.next.ensures.steps in
    item_failed f all (length xs) c.in-Some.extent c.in-Some.extent _ (g.T.Sink.taken c.loop-extent.sink) _ _ (g.T.Sink.failures c.loop-extent.sink) _ _ c.from_residual.ensures.0 here.within here.here
    (subst (λ (l : List Extent). Appends (g.T.Sink.taken c.args.sink.now) (g.T.Sink.taken c.loop-extent.sink) (flat_map f l)) here.far before.put) before.failed put.0 put.1

pub returns : goal.returns
returns g c =
    let all = extents g.E.Order.order c.args.start c.args.block in
    let given = all_given extents_left _ _ c.next.new.self all c.loop-extent.yielded _
    (ap extents_left c.into_iter-extent-iterator.ensures.into_iter_gives ∙ c.of_part-extent-items.ensures) c.loop-extent.yielded_by c.in-None.is c.next.ensures.steps in
    let done = c.loop-extent.invariant in
    (subst (λ (ss : List Extent). Appends (g.T.Sink.taken c.args.sink.now) (g.T.Sink.taken c.loop-extent.sink) (flat_map (rect_text g.E.Order.order c.args.image.now c.args.start c.args.kept.now c.args.paths.now) ss)) given done.put, done.failed)
