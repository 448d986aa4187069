use Rattle.std.proofs.Common.{ℕ, List, sym}
use Rattle.jnode.specs.declared.order.Endian.{Endian}
use Rattle.jedge.specs.Acts.{prints}
use Rattle.jedge.proofs.Steps.{answered, does_at, then_err, then_ok}
use Rattle.jinspects.specs.Inspecting.{checks_through}
use Rattle.jinspects.specs.ThroughVerdict.{ChecksThrough}
use Rattle.jinspects.proofs.check.check_through.Goals as goal

pub returns-in-Err : goal.returns-in-Err
returns-in-Err g c = then_err c.in-Err.ensures

pub returns-in-Err-judge_block_size : goal.returns-in-Err-judge_block_size
returns-in-Err-judge_block_size g c =
    then_ok c.in-Ok.ensures (then_err (answered c.in-Err-judge_block_size.ensures))

pub print_check-requires : goal.print_check-requires
print_check-requires g c =
    (c.in-Ok-judge_block_size.ensures, rw c.as_slice.ensures.value c.in-Ok-read.ensures.acts.1)

pub returns-in-Ok-read : goal.returns-in-Ok-read
returns-in-Ok-read g c =
    let size = c.args.options.geometry.block in
    does_at (λ (e : Endian). checks_through e size c.args.shape c.args.image.now) (sym c.requires)
    (then_ok c.in-Ok.ensures (then_ok (answered c.in-Ok-judge_block_size.ensures)
    (then_ok c.in-Ok-read.ensures
    (does_at (λ (b : List ℕ). prints (ChecksThrough g.E.Order.order size c.args.shape b))
    c.as_slice.ensures.value c.print_check.ensures))))

pub returns-in-Err-read : goal.returns-in-Err-read
returns-in-Err-read g c = then_ok c.in-Ok.ensures (then_ok (answered c.in-Ok-judge_block_size.ensures)
    (then_err c.in-Err-read.ensures))
