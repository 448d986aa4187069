use Rattle.std.specs.Prelude.{filter_map}
use Rattle.jscan.specs.ImageLeft.{image_left}
use Rattle.jcalls.specs.FindingRows.{finding_rows, found_row}
use Rattle.jcalls.proofs.FillingLemmas.{FilledSoFar}
use Rattle.jcalls.proofs.finding.fill_found.Given as goal

abbrev pub invariant-loop-extent : goal.invariant-loop-extent
invariant-loop-extent g l =
    FilledSoFar (finding_rows g.E.Order.order l.block l.image) (filter_map found_row (image_left l.extent-iterator)) l.fn.rows l.rows l.count
