use Rattle.std.proofs.Common.{ℕ, ◌+◌, ◌++◌, List, [], ◌∷◌, append_assoc, length, drop, ap, ◌∙◌, subst, arith}
use Rattle.std.specs.Io.KnownBytes.{Appends}
use Rattle.std.specs.List.{flat_map}
use Rattle.std.specs.Prelude.{IfSome}
use Rattle.jscan.specs.PartialScans.{HasScanned}
use Rattle.std.proofs.KnownBytes.{Appends-trans}
use Rattle.flashbase.specs.Device.{PutsPart, next_count}
use Rattle.flashbase.proofs.DeviceLemmas.{part_before}
use Rattle.jscan.specs.Extents.{extents}
use Rattle.jscan.specs.ExtentsLeft.{extents_left}
use Rattle.jscan.specs.declared.extent.Extent.{Extent}
use Rattle.jscan.specs.Counts.{block_counted, counted}
use Rattle.jscan.specs.declared.counts.Counts.{Counts}
use Rattle.jreport.specs.Forms.{block_line, extent_line}
use Rattle.jreport.specs.Report.{lines_of_block}
use Rattle.jreport.proofs.ExtentLemmas.{short_extents, length_extents}
use Rattle.jreport.proofs.PutLemmas.{turn, all_given, puts_err, lines_more, part_of_lines, split_behind, block_counted_more, counted_has_room}
use Rattle.jreport.proofs.blocks.put_part.Goals as goal

pub returns-in_err-put_text-clause-puts : goal.returns-in_err-put_text-clause-puts
returns-in_err-put_text-clause-puts g c =
    let put = c.in_err-put_text.ensures.puts in
    let line = c.as_slice.ensures ∙ c.write_block.ensures in
    let ss = extents g.E.Order.order c.args.start c.args.block in
    puts_err _ _ _ _ _ _ c.from_residual.ensures.0
    (part_before _ _ (block_line c.args.counts.now.blocks) (flat_map extent_line ss) (subst (λ (l : List ℕ). PutsPart (g.T.Sink.taken c.args.sink.now) (g.T.Sink.taken c.put_text.new.sink) l) line put.0)) put.1

pub put_extent-requires-clause-name : goal.put_extent-requires-clause-name
put_extent-requires-clause-name g c =
    let all = extents g.E.Order.order c.args.start c.args.block in
    let here = turn extents_left _ _ c.next.new.self all c.loop-extent.yielded _ c.in-Some.extent
    (ap extents_left c.into_iter-extent-iterator.ensures.into_iter_gives ∙ c.of_part-extent-items.ensures) c.loop-extent.yielded_by c.in-Some.is c.next.ensures.steps in
    short_extents g.E.Order.order c.args.start c.args.block (length c.loop-extent.yielded) c.in-Some.extent here.within here.here

pub put_extent-requires-clause-room : goal.put_extent-requires-clause-room
put_extent-requires-clause-room g c =
    let all = extents g.E.Order.order c.args.start c.args.block in
    let here = turn extents_left _ _ c.next.new.self all c.loop-extent.yielded _ c.in-Some.extent
    (ap extents_left c.into_iter-extent-iterator.ensures.into_iter_gives ∙ c.of_part-extent-items.ensures) c.loop-extent.yielded_by c.in-Some.is c.next.ensures.steps in
    let few = length_extents g.E.Order.order c.args.start c.args.block in
    counted_has_room c.args.counts.now c.loop-extent.counts c.loop-extent.yielded (length c.args.block) c.loop-extent.invariant.counts (omega (arith, here.within, few)) c.requires.room

pub loop-extent-preserved : goal.loop-extent-preserved
loop-extent-preserved g c =
    let put = c.in_ok-put_extent.ensures.puts in
    let before = c.loop-extent.invariant in
    let xs = c.loop-extent.yielded in
    let x = c.in-Some.extent in
    let k = c.args.counts.now.blocks in
    record {
      put = subst (Appends (g.T.Sink.taken c.args.sink.now) (g.T.Sink.taken c.put_extent.new.sink)) (lines_more k xs x)
          (Appends-trans _ _ _ (block_line k ++ flat_map extent_line xs) (extent_line x) before.put put.0);
      failed = put.1 ∙ before.failed;
      counts = c.in_ok-put_extent.ensures.counts ∙ ap (λ (n : Counts). counted n x.kind) before.counts ∙ block_counted_more c.args.counts.now xs x;
      scan = λ before_it has. subst (λ (l : List Extent). IfSome c.scan_extent.new.partial (HasScanned l)) (append_assoc before_it xs (x ∷ []))
          (c.scan_extent.ensures (before_it ++ xs) (before.scan before_it has));
    }

pub returns-in_err-put_extent-clause-puts : goal.returns-in_err-put_extent-clause-puts
returns-in_err-put_extent-clause-puts g c =
    let put = c.in_err-put_extent.ensures.puts in
    let before = c.loop-extent.invariant in
    let xs = c.loop-extent.yielded in
    let x = c.in-Some.extent in
    let k = c.args.counts.now.blocks in
    let all = extents g.E.Order.order c.args.start c.args.block in
    let here = turn extents_left _ _ c.next.new.self all c.loop-extent.yielded _ c.in-Some.extent
    (ap extents_left c.into_iter-extent-iterator.ensures.into_iter_gives ∙ c.of_part-extent-items.ensures) c.loop-extent.yielded_by c.in-Some.is c.next.ensures.steps in
    let split = split_behind all xs x here.far here.within here.here in
    puts_err _ _ _ _ _ _ c.from_residual-in_err-put_extent.ensures.0
    (part_of_lines k all xs (drop (length xs + 1) all) x _ _ _ split before.put put.0) (put.1 ∙ ap next_count before.failed)

pub returns-clause-puts : goal.returns-clause-puts
returns-clause-puts g c =
    let all = extents g.E.Order.order c.args.start c.args.block in
    let given = all_given extents_left _ _ c.next.new.self all c.loop-extent.yielded _
    (ap extents_left c.into_iter-extent-iterator.ensures.into_iter_gives ∙ c.of_part-extent-items.ensures) c.loop-extent.yielded_by c.in-None.is c.next.ensures.steps in
    let done = c.loop-extent.invariant in
    (subst (λ (ss : List Extent). Appends (g.T.Sink.taken c.args.sink.now) (g.T.Sink.taken c.loop-extent.sink) (lines_of_block c.args.counts.now.blocks ss)) given done.put, done.failed)

pub returns-clause-scan : goal.returns-clause-scan
returns-clause-scan g c = λ before_it has.
    let all = extents g.E.Order.order c.args.start c.args.block in
    let given = all_given extents_left _ _ c.next.new.self all c.loop-extent.yielded _
    (ap extents_left c.into_iter-extent-iterator.ensures.into_iter_gives ∙ c.of_part-extent-items.ensures) c.loop-extent.yielded_by c.in-None.is c.next.ensures.steps in
    subst (λ (ss : List Extent). IfSome c.loop-extent.partial (HasScanned (before_it ++ ss))) given (c.loop-extent.invariant.scan before_it has)

pub returns-clause-counts : goal.returns-clause-counts
returns-clause-counts g c =
    let all = extents g.E.Order.order c.args.start c.args.block in
    let given = all_given extents_left _ _ c.next.new.self all c.loop-extent.yielded _
    (ap extents_left c.into_iter-extent-iterator.ensures.into_iter_gives ∙ c.of_part-extent-items.ensures) c.loop-extent.yielded_by c.in-None.is c.next.ensures.steps in
    c.loop-extent.invariant.counts ∙ ap (block_counted c.args.counts.now) given
