use Rattle.flashbase.proofs.DeviceLemmas.{part_before, then_puts}
use Rattle.jremakes.specs.Leaving.{clashing_lines, remade_notes}
use Rattle.jremakes.proofs.leaving.put_left_out.Goals as goal

pub returns-in-Ok : goal.returns-in-Ok
returns-in-Ok g c = then_puts _ _ _ _ _ _ (clashing_lines c.args.left.now)
    (remade_notes c.args.found) c.put_found.result c.in-Ok.ensures.0 c.in-Ok.ensures.1
    c.put_found.ensures

pub returns-in-Err : goal.returns-in-Err
returns-in-Err g c = (
  part_before _ _ (clashing_lines c.args.left.now) (remade_notes c.args.found)
      c.in-Err.ensures.0,
  c.in-Err.ensures.1,
)
