use Rattle.std.proofs.Common.{ℕ, List, sym}
use Rattle.jnode.specs.declared.order.Endian.{Endian}
use Rattle.jedge.specs.Acts.{prints}
use Rattle.jedge.proofs.Steps.{does_at, then_err, then_ok}
use Rattle.jinspects.specs.Inspecting.{recalls}
use Rattle.jinspects.specs.Recalling.{Recalls, recalled_told}
use Rattle.jinspects.proofs.recalling.cat_inode.Goals as goal

pub returns-in-Err : goal.returns-in-Err
returns-in-Err g c =
    does_at (λ (e : Endian). recalls e c.args.options.geometry.block c.args.revision c.args.image.now)
    (sym c.requires) (then_err c.in-Err.ensures)

pub returns : goal.returns
returns g c =
    let size = c.args.options.geometry.block in
    does_at (λ (e : Endian). recalls e size c.args.revision c.args.image.now) (sym c.requires)
    (then_ok c.in-Ok.ensures
    (does_at (λ (b : List ℕ). prints (Recalls c.args.revision g.E.Order.order size (recalled_told g.E.Order.order size b) b)) c.as_slice.ensures.value c.print_revision.ensures))
