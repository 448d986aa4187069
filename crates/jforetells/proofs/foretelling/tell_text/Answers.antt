use Rattle.jedge.proofs.Steps.{answered, does_at, then_err, then_ok}
use Rattle.jreads.specs.Named.{loads_listed}
use Rattle.jforetells.proofs.foretelling.tell_text.Goals as goal

pub returns-in-Err : goal.returns-in-Err
returns-in-Err g c = then_err (answered c.in-Err.ensures)

pub returns-in-Ok-load_listed : goal.returns-in-Ok-load_listed
returns-in-Ok-load_listed g c = then_ok (answered c.in-Ok.ensures)
    (then_ok (does_at loads_listed c.as_slice.ensures.value c.in-Ok-load_listed.ensures)
    c.tell_lines.ensures)

pub returns : goal.returns
returns g c = then_ok (answered c.in-Ok.ensures)
    (then_err (does_at loads_listed c.as_slice.ensures.value c.in-Err-load_listed.ensures))
