use Rattle.std.proofs.Common.{ℕ, sym}
use Rattle.jnode.specs.declared.order.Endian.{Endian}
use Rattle.jedge.proofs.Steps.{does_at, then_err, then_ok}
use Rattle.jmakes.specs.Making.{wanted_file}
use Rattle.jremakes.specs.Asked.{remaking_of}
use Rattle.jremakes.specs.Commands.{compacts_apart, compacts_file_apart}
use Rattle.jremakes.proofs.compact_apart.compact_apart.Goals as goal

pub returns-in-Ok : goal.returns-in-Ok
returns-in-Ok g c =
    let asked = c.args.asked in
    let size = asked.options.geometry.block in
    let e = g.E.Order.order in
    let file = wanted_file asked.output in
    does_at (λ (e : Endian). compacts_file_apart e (remaking_of asked) c.args.blocks) (sym c.requires)
    (then_ok c.in-Ok.ensures
    (does_at (λ (n : ℕ). compacts_apart e size n file c.in-Ok.image.items)
    c.compact_blocks-blocks.ensures
    (does_at (compacts_apart e size c.compact_blocks-blocks.result file) c.as_slice.ensures.value
    c.collect.ensures)))

pub returns-in-Err : goal.returns-in-Err
returns-in-Err g c = does_at (λ (e : Endian). compacts_file_apart e (remaking_of c.args.asked) c.args.blocks)
    (sym c.requires) (then_err c.in-Err.ensures)
