use Rattle.std.proofs.Common.{None, sym}
use Rattle.jnode.specs.declared.order.Endian.{Endian}
use Rattle.jedge.specs.Acts.{prints}
use Rattle.jedge.specs.Commands.{Costs, examines}
use Rattle.jedge.specs.Images.{HasNodes, MountsWith}
use Rattle.jedge.proofs.Steps.{answered_at, does_at, then_err, then_ok}
use Rattle.jedge.proofs.damage.damage.Goals as goal

pub returns-in-Err : goal.returns-in-Err
returns-in-Err g c = then_err c.in-Err.ensures

pub returns-in-Err-judge_nodes : goal.returns-in-Err-judge_nodes
returns-in-Err-judge_nodes g c =
    let options = c.args.asked.options in
    let bytes = c.as_slice-bytes.result.now in
    then_ok c.in-Ok.ensures (does_at (examines options c.args.asked.decompress) c.as_slice-bytes.ensures.value
    (then_err (answered_at (λ (e : Endian). HasNodes e options.geometry.block None bytes)
    (sym c.requires) c.in-Err-judge_nodes.ensures)))

pub returns-in-Ok-mounted_as : goal.returns-in-Ok-mounted_as
returns-in-Ok-mounted_as g c =
    let options = c.args.asked.options in
    let bytes = c.as_slice-bytes.result.now in
    then_ok c.in-Ok.ensures (does_at (examines options c.args.asked.decompress) c.as_slice-bytes.ensures.value
    (then_ok (answered_at (λ (e : Endian). HasNodes e options.geometry.block None bytes)
    (sym c.requires) c.in-Ok-judge_nodes.ensures)
    (then_ok (answered_at (λ (e : Endian). MountsWith c.args.asked.decompress e options.geometry.block bytes)
    (sym c.requires) c.in-Ok-mounted_as.ensures)
    (does_at (λ (e : Endian). prints (Costs e options.geometry.block c.in-Ok-mounted_as.mounted))
    (sym c.requires) c.print_costs.ensures))))

pub returns : goal.returns
returns g c =
    let options = c.args.asked.options in
    let bytes = c.as_slice-bytes.result.now in
    then_ok c.in-Ok.ensures (does_at (examines options c.args.asked.decompress) c.as_slice-bytes.ensures.value
    (then_ok (answered_at (λ (e : Endian). HasNodes e options.geometry.block None bytes)
    (sym c.requires) c.in-Ok-judge_nodes.ensures)
    (then_err (answered_at (λ (e : Endian). MountsWith c.args.asked.decompress e options.geometry.block bytes)
    (sym c.requires) c.in-Err-mounted_as.ensures))))
