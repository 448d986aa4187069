use Rattle.std.proofs.Common.{arith, List, sym, subst, ◌+◌}
use Rattle.std.specs.Prelude.{filter_map}
use Rattle.jscan.specs.ImageLeft.{image_left}
use Rattle.jscan.specs.Scans.{image_extents}
use Rattle.jscan.specs.declared.extent.Extent.{Extent}
use Rattle.jcalls.specs.FindingRows.{finding_rows, found_row}
use Rattle.jcalls.proofs.CountingLemmas.{extents_few}
use Rattle.jcalls.proofs.FillingLemmas.{FilledSoFar, few_rows, filling_gives, filling_counts}
use Rattle.jcalls.proofs.finding.fill_found.Goals as goal
use Rattle.jcalls.proofs.finding.fill_found.Goals.{then-count-rows, else-count-rows}

pub overflow_add-count : goal.overflow_add-count
overflow_add-count g c =
    let e = g.E.Order.order in
    let few = few_rows found_row (image_extents e c.args.block c.args.image.now) _ c.args.rows.now c.loop-extent.rows c.loop-extent.count c.loop-extent.invariant in
    omega (arith, few, extents_few e c.args.block c.args.image.now c.in-Ok.ensures.scannable)

pub loop-extent-preserved-in-Some-found_row : goal.loop-extent-preserved-in-Some-found_row
loop-extent-preserved-in-Some-found_row g c =
    let all = finding_rows g.E.Order.order c.args.block c.args.image.now in
    let before = subst (λ (ss : List Extent). FilledSoFar all (filter_map found_row ss) c.args.rows.now c.loop-extent.rows c.loop-extent.count) c.in-Some.ensures.steps c.loop-extent.invariant in
    elim c.if-count-rows.branch [
      | then-count-rows w ↦
          subst (λ rows. FilledSoFar all (filter_map found_row (image_left c.next.new.self)) c.args.rows.now rows (c.loop-extent.count + 1)) (sym w.rows-is)
          (filling_gives found_row c.in-Some.extent (image_left c.next.new.self) all c.args.rows.now c.loop-extent.rows c.loop-extent.count c.in-Some-found_row.row
          (sym c.in-Some-found_row.ensures) w.if-count-rows.true c.loop-extent.auto.rows before)
      | else-count-rows w ↦
          subst (λ rows. FilledSoFar all (filter_map found_row (image_left c.next.new.self)) c.args.rows.now rows (c.loop-extent.count + 1)) (sym w.rows-is)
          (filling_counts found_row c.in-Some.extent (image_left c.next.new.self) all c.args.rows.now c.loop-extent.rows c.loop-extent.count c.in-Some-found_row.row
          (sym c.in-Some-found_row.ensures) w.if-count-rows.false c.loop-extent.auto.rows before)
    ]
