use Rattle.std.proofs.Common.{List}
use Rattle.jlisting.specs.declared.line.Line.{Line}
use Rattle.jedge.proofs.Steps.{answered, does_at, then_err, then_ok}
use Rattle.jreads.specs.Named.{loads_named}
use Rattle.jverifies.proofs.comparing.compare_text.Goals as goal

pub returns-in-Err : goal.returns-in-Err
returns-in-Err g c = then_err (answered c.in-Err.ensures)

pub returns-in-Ok-load_named : goal.returns-in-Ok-load_named
returns-in-Ok-load_named g c = then_ok (answered c.in-Ok.ensures)
    (then_ok (does_at (λ (lines : List Line). loads_named lines c.args.before) c.deref.ensures.value c.in-Ok-load_named.ensures)
    c.compare_lines.ensures)

pub returns : goal.returns
returns g c = then_ok (answered c.in-Ok.ensures)
    (then_err (does_at (λ (lines : List Line). loads_named lines c.args.before) c.deref.ensures.value c.in-Err-load_named.ensures))
