use Rattle.std.proofs.Common.{List, sym, ℕ}
use Rattle.jnode.specs.declared.order.Endian.{Endian}
use Rattle.jedge.proofs.Steps.{answered, does_at, then_err, then_ok}
use Rattle.jreads.specs.Scanning.{scans}
use Rattle.jreads.proofs.scan.scan.Goals as goal

pub returns-in-Err : goal.returns-in-Err
returns-in-Err g c = then_err c.in-Err.ensures

pub print_scan-requires : goal.print_scan-requires
print_scan-requires g c = c.in-Ok-judge_block_size.ensures

pub returns-in-Ok-judge_block_size : goal.returns-in-Ok-judge_block_size
returns-in-Ok-judge_block_size g c =
    let size = c.args.options.geometry.block in
    let opened : List ℕ = g.H.Input.Input.name c.in-Ok.input in
    does_at (λ (e : Endian). scans e size c.args.image.now) (sym c.requires)
    (then_ok c.in-Ok.ensures (then_ok (answered c.in-Ok-judge_block_size.ensures) c.print_scan.ensures))

pub returns-in-Err-judge_block_size : goal.returns-in-Err-judge_block_size
returns-in-Err-judge_block_size g c =
    then_ok c.in-Ok.ensures (then_err (answered c.in-Err-judge_block_size.ensures))
