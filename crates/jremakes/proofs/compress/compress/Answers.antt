use Rattle.std.proofs.Common.{sym}
use Rattle.jnode.specs.declared.order.Endian.{Endian}
use Rattle.jedge.proofs.Steps.{does_at, then_err, then_ok}
use Rattle.jmakes.specs.Making.{wanted_file}
use Rattle.jremakes.specs.Asked.{remaking_of}
use Rattle.jremakes.specs.Commands.{compresses, packs}
use Rattle.jremakes.proofs.compress.compress.Goals as goal

pub returns-in-Ok : goal.returns-in-Ok
returns-in-Ok g c =
    let asked = c.args.asked in
    does_at (λ (e : Endian). compresses e (remaking_of asked)) (sym c.requires)
    (then_ok c.in-Ok.ensures
    (does_at (packs g.E.Order.order asked.options.geometry.block (wanted_file asked.output))
    c.as_slice.ensures.value c.pack.ensures))

pub returns-in-Err : goal.returns-in-Err
returns-in-Err g c =
    does_at (λ (e : Endian). compresses e (remaking_of c.args.asked)) (sym c.requires)
    (then_err c.in-Err.ensures)
