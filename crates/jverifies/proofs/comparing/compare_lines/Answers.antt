use Rattle.std.proofs.Common.{List, refl, ℕ}
use Rattle.jedge.proofs.Steps.{answered, does_at, nothing_done, then_err, then_ok}
use Rattle.jverifies.specs.Seen.{compared_with}
use Rattle.jverifies.specs.Verifying.{compares_made}
use Rattle.jverifies.proofs.comparing.compare_lines.Goals as goal

pub returns-in-Err : goal.returns-in-Err
returns-in-Err g c = then_err (answered c.in-Err.ensures)

pub returns-in-Ok-make_in_memory : goal.returns-in-Ok-make_in_memory
returns-in-Ok-make_in_memory g c =
    then_ok (answered c.in-Ok.ensures) (then_ok (nothing_done refl c.in-Ok-make_in_memory.ensures)
    (does_at (compares_made g.E.Order.order (compared_with c.args.against)) c.as_slice.ensures.value c.compare_made.ensures))

pub returns : goal.returns
returns g c = then_ok (answered c.in-Ok.ensures) (then_err (nothing_done refl c.in-Err-make_in_memory.ensures))
