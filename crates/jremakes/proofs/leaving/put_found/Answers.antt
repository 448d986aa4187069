use Rattle.flashbase.proofs.DeviceLemmas.{part_before, then_puts}
use Rattle.jreport.specs.ExtractionNotes.{left_attributes_line_of, line_of_count}
use Rattle.jremakes.specs.Leaving.{findings_line}
use Rattle.jremakes.proofs.leaving.put_found.Goals as goal

pub returns-in-Ok : goal.returns-in-Ok
returns-in-Ok g c = then_puts _ _ _ _ _ _ (findings_line c.args.found.noted)
    (line_of_count left_attributes_line_of c.args.found.attributes) c.put_left_attributes.result c.in-Ok.ensures.0
    c.in-Ok.ensures.1 c.put_left_attributes.ensures

pub returns-in-Err : goal.returns-in-Err
returns-in-Err g c = (
  part_before _ _ (findings_line c.args.found.noted)
      (line_of_count left_attributes_line_of c.args.found.attributes) c.in-Err.ensures.0,
  c.in-Err.ensures.1,
)
