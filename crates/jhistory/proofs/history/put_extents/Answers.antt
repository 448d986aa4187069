use Rattle.std.proofs.Common.{◌≡◌, ℕ, ◌+◌, ◌<◌, ◌^◌, List, length, ap, arith, ◌∙◌, subst}
use Rattle.std.specs.Io.KnownBytes.{Appends}
use Rattle.std.specs.List.{flat_map}
use Rattle.jline.proofs.TurnLemmas.{item_failed}
use Rattle.jscan.specs.ImageLeft.{image_left}
use Rattle.jscan.specs.Scans.{image_extents}
use Rattle.jscan.specs.declared.extent.Extent.{Extent}
use Rattle.jhistory.specs.HistoryText.{selection, told_line, word_totals, words_told}
use Rattle.jhistory.proofs.TellingLemmas.{turn_of, all_given, extents_few, line_put}
use Rattle.jhistory.proofs.history.put_extents.Goals as goal

pub put_extent-requires-clause-extent : goal.put_extent-requires-clause-extent
put_extent-requires-clause-extent g c =
    let all = image_extents g.E.Order.order c.args.geometry.block c.args.image.now in
    let here = turn_of image_left _ _ c.next.new.self all c.loop-extent.yielded _ c.in-Some.extent
    (ap image_left c.into_iter-extent-iterator.ensures.into_iter_gives ∙ c.in-Ok.ensures.extents) c.loop-extent.yielded_by c.in-Some.is c.next.ensures.steps in
    here.there

pub put_extent-requires-clause-room : goal.put_extent-requires-clause-room
put_extent-requires-clause-room g c =
    let all = image_extents g.E.Order.order c.args.geometry.block c.args.image.now in
    let here = turn_of image_left _ _ c.next.new.self all c.loop-extent.yielded _ c.in-Some.extent
    (ap image_left c.into_iter-extent-iterator.ensures.into_iter_gives ∙ c.in-Ok.ensures.extents) c.loop-extent.yielded_by c.in-Some.is c.next.ensures.steps in
    let few = extents_few g.E.Order.order c.args.geometry.block c.args.image.now c.requires in
    let within : length c.loop-extent.yielded < length all = here.within in
    let room : length c.loop-extent.yielded + 1 < 18446744073709551616 = omega (arith, few, within) in
    (c.loop-extent.yielded, room, c.loop-extent.invariant.totals)

pub loop-extent-preserved : goal.loop-extent-preserved
loop-extent-preserved g c =
    let put = c.in_ok-put_extent.ensures.puts in
    let before = c.loop-extent.invariant in
    record {
      put = line_put (told_line g.E.Order.order c.args.geometry.block c.args.image.now c.args.told.words.now (selection c.args.told.subjects c.args.told.period)) c.loop-extent.yielded c.in-Some.extent _ _ _ before.put put.0;
      failed = put.1 ∙ before.failed;
      totals = c.in_ok-put_extent.ensures.totals c.loop-extent.yielded before.totals;
    }

pub returns-in_err-put_extent-clause-puts : goal.returns-in_err-put_extent-clause-puts
returns-in_err-put_extent-clause-puts g c =
    let put = c.in_err-put_extent.ensures.puts in
    let before = c.loop-extent.invariant in
    let xs = c.loop-extent.yielded in
    let f = told_line g.E.Order.order c.args.geometry.block c.args.image.now c.args.told.words.now (selection c.args.told.subjects c.args.told.period) in
    let all = image_extents g.E.Order.order c.args.geometry.block c.args.image.now in
    let here = turn_of image_left _ _ c.next.new.self all xs _ c.in-Some.extent
    (ap image_left c.into_iter-extent-iterator.ensures.into_iter_gives ∙ c.in-Ok.ensures.extents) c.loop-extent.yielded_by c.in-Some.is c.next.ensures.steps in
    item_failed f all (length xs) c.in-Some.extent c.in-Some.extent _ (g.T.Sink.taken c.loop-extent.sink) _ _ (g.T.Sink.failures c.loop-extent.sink) _ _ c.from_residual.ensures.0 here.within here.here
    (subst (λ (l : List Extent). Appends (g.T.Sink.taken c.args.sink.now) (g.T.Sink.taken c.loop-extent.sink) (flat_map f l)) here.far before.put) before.failed put.0 put.1

pub returns-clause-puts : goal.returns-clause-puts
returns-clause-puts g c =
    let all = image_extents g.E.Order.order c.args.geometry.block c.args.image.now in
    let given = all_given image_left _ _ c.next.new.self all c.loop-extent.yielded _
    (ap image_left c.into_iter-extent-iterator.ensures.into_iter_gives ∙ c.in-Ok.ensures.extents) c.loop-extent.yielded_by c.in-None.is c.next.ensures.steps in
    let done = c.loop-extent.invariant in (
      subst (λ (ss : List Extent). Appends (g.T.Sink.taken c.args.sink.now) (g.T.Sink.taken c.loop-extent.sink)
          (flat_map (told_line g.E.Order.order c.args.geometry.block c.args.image.now c.args.told.words.now (selection c.args.told.subjects c.args.told.period)) ss)) given done.put,
      done.failed,
    )

pub returns-clause-totals : goal.returns-clause-totals
returns-clause-totals g c =
    let all = image_extents g.E.Order.order c.args.geometry.block c.args.image.now in
    let given = all_given image_left _ _ c.next.new.self all c.loop-extent.yielded _
    (ap image_left c.into_iter-extent-iterator.ensures.into_iter_gives ∙ c.in-Ok.ensures.extents) c.loop-extent.yielded_by c.in-None.is c.next.ensures.steps in
    c.loop-extent.invariant.totals
    ∙ ap (λ (ss : List Extent). word_totals (words_told g.E.Order.order c.args.geometry.block c.args.image.now c.args.told.words.now (selection c.args.told.subjects c.args.told.period) ss)) given
