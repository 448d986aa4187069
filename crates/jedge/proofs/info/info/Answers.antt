use Rattle.std.proofs.Common.{ℕ, List, ◌++◌, ◌∙◌, ap}
use Rattle.jinfo.specs.InfoText.{info_text}
use Rattle.jspare.specs.Showing.{spare_lines}
use Rattle.jedge.specs.Acts.{Whole, seen_as}
use Rattle.jedge.specs.Commands.{informed}
use Rattle.jedge.specs.Parting.{FindsRegions}
use Rattle.jedge.specs.Sparing.{FindsSpare}
use Rattle.jregions.specs.RegionText.{region_lines}
use Rattle.jedge.specs.Told.{found_told}
use Rattle.jedge.proofs.Steps.{answered_at, not_printed, printed_put, puts_at, seen_closed, then_err, then_ok}
use Rattle.jedge.proofs.info.info.Goals as goal

pub returns-in-Err : goal.returns-in-Err
returns-in-Err g c = then_err c.in-Err.ensures

pub returns-in-Err-find_spare : goal.returns-in-Err-find_spare
returns-in-Err-find_spare g c =
    then_ok c.in-Ok.ensures (then_err (answered_at FindsSpare c.as_slice.ensures.value c.in-Err-find_spare.ensures))

pub returns-in-Err-find_regions : goal.returns-in-Err-find_regions
returns-in-Err-find_regions g c =
    then_ok c.in-Ok.ensures (then_ok (answered_at FindsSpare c.as_slice.ensures.value c.in-Ok-find_spare.ensures)
    (then_err (answered_at FindsRegions c.as_slice-2.ensures.value c.in-Err-find_regions.ensures)))

pub returns-in-Err-output : goal.returns-in-Err-output
returns-in-Err-output g c =
    then_ok c.in-Ok.ensures (then_ok (answered_at FindsSpare c.as_slice.ensures.value c.in-Ok-find_spare.ensures)
    (then_ok (answered_at FindsRegions c.as_slice-2.ensures.value c.in-Ok-find_regions.ensures)
    (not_printed c.output.ensures.same c.in-Err-output.ensures.memory)))

pub returns : goal.returns
returns g c = then_ok c.in-Ok.ensures (then_ok (answered_at FindsSpare c.as_slice.ensures.value c.in-Ok-find_spare.ensures)
    (then_ok (answered_at FindsRegions c.as_slice-2.ensures.value c.in-Ok-find_regions.ensures)
    (printed_put _ c.output.ensures.same
    c.in-Ok-output.ensures.sound c.in-Ok-output.ensures.empty
    (puts_at (λ (b : List ℕ). Whole (info_text b ++ (spare_lines c.in-Ok-find_spare.spare ++ region_lines c.in-Ok-find_regions.regions)) (informed b)) c.as_slice-3.ensures.value
    c.put_lines-answer.ensures) c.close-closed.ensures
    (ap (seen_as found_told) c.finished.ensures
    ∙ seen_closed found_told c.put_lines-answer.result c.close-closed.result))))
