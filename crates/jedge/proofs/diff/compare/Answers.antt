use Rattle.std.proofs.Common.{Some, sym}
use Rattle.jnode.specs.declared.order.Endian.{Endian}
use Rattle.jcommand.specs.Parsed.{comparison_view}
use Rattle.jedge.specs.Images.{HasNodes, MountsBoth}
use Rattle.jedge.proofs.Steps.{answered_at, then_err, then_ok}
use Rattle.jedge.proofs.diff.compare.Goals as goal

pub returns-in-Err : goal.returns-in-Err
returns-in-Err g c =
    let x = comparison_view c.args.asked in
    then_err (answered_at (λ (e : Endian). HasNodes e x.options.geometry.block (Some x.first) c.args.first.now) (sym c.requires) c.in-Err.ensures)

pub returns-in-Err-judge_nodes : goal.returns-in-Err-judge_nodes
returns-in-Err-judge_nodes g c =
    let x = comparison_view c.args.asked in
    let size = x.options.geometry.block in
    then_ok (answered_at (λ (e : Endian). HasNodes e size (Some x.first) c.args.first.now) (sym c.requires) c.in-Ok.ensures)
    (then_err (answered_at (λ (e : Endian). HasNodes e size (Some x.second) c.args.second.now) (sym c.requires) c.in-Err-judge_nodes.ensures))

pub returns-in-Ok-mount_both : goal.returns-in-Ok-mount_both
returns-in-Ok-mount_both g c =
    let x = comparison_view c.args.asked in
    let size = x.options.geometry.block in
    then_ok (answered_at (λ (e : Endian). HasNodes e size (Some x.first) c.args.first.now) (sym c.requires) c.in-Ok.ensures)
    (then_ok (answered_at (λ (e : Endian). HasNodes e size (Some x.second) c.args.second.now) (sym c.requires) c.in-Ok-judge_nodes.ensures)
    (then_ok (answered_at (λ (e : Endian). MountsBoth x.decompress e size c.args.first.now c.args.second.now) (sym c.requires) c.in-Ok-mount_both.ensures)
    c.print_differences.ensures))

pub returns : goal.returns
returns g c =
    let x = comparison_view c.args.asked in
    let size = x.options.geometry.block in
    then_ok (answered_at (λ (e : Endian). HasNodes e size (Some x.first) c.args.first.now) (sym c.requires) c.in-Ok.ensures)
    (then_ok (answered_at (λ (e : Endian). HasNodes e size (Some x.second) c.args.second.now) (sym c.requires) c.in-Ok-judge_nodes.ensures)
    (then_err (answered_at (λ (e : Endian). MountsBoth x.decompress e size c.args.first.now c.args.second.now) (sym c.requires) c.in-Err-mount_both.ensures)))
