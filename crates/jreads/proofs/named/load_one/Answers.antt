use Rattle.std.proofs.Common.{◌∙◌, Bool, sym}
use Rattle.jedge.proofs.Steps.{does_at, then_err, then_ok}
use Rattle.jreads.specs.Named.{loads_if}
use Rattle.jreads.proofs.named.load_one.Goals as goal

pub returns-in-Ok : goal.returns-in-Ok
returns-in-Ok g c =
    does_at (λ (b : Bool). loads_if b c.args.name.now c.args.files.now) (sym c.if-has.false ∙ c.has.ensures)
    (then_ok c.in-Ok.ensures c.read_with.ensures)

pub returns-in-Err : goal.returns-in-Err
returns-in-Err g c =
    does_at (λ (b : Bool). loads_if b c.args.name.now c.args.files.now) (sym c.if-has.false ∙ c.has.ensures)
    (then_err c.in-Err.ensures)
