use Rattle.std.proofs.Common.{◌∙◌, ap, sym}
use Rattle.jnode.specs.declared.order.Endian.{Endian}
use Rattle.std.specs.Prelude.{option_map}
use Rattle.jlook.specs.Chosen.{symlinks_in}
use Rattle.jedge.specs.Acts.{prints}
use Rattle.jedge.specs.Commands.{lists, ls_says, read_told, shows_mount}
use Rattle.jedge.specs.Showing.{Lists}
use Rattle.jedge.specs.Told.{Told}
use Rattle.jedge.proofs.Steps.{answered, does_at, then_err, then_ok}
use Rattle.jedge.proofs.list.list.Goals as goal

pub returns-in-Err : goal.returns-in-Err
returns-in-Err g c = then_err (answered c.in-Err.ensures)

pub returns-in-Err-load : goal.returns-in-Err-load
returns-in-Err-load g c =
    let word = option_map (λ p. p.now) c.args.path in
    does_at (λ (e : Endian). lists e c.args.options.geometry.block c.args.decompress c.args.image.now word)
    (sym c.requires) (then_ok (answered c.in-Ok.ensures) (then_err c.in-Err-load.ensures))

pub returns-in-Ok-mounted_tree : goal.returns-in-Ok-mounted_tree
returns-in-Ok-mounted_tree g c =
    let word = option_map (λ p. p.now) c.args.path in
    let size = c.args.options.geometry.block in
    let part = option_map (λ path. path.items) c.in-Ok.part in
    let m = c.in-Ok-mounted_tree.mounted in
    does_at (λ (e : Endian). lists e size c.args.decompress c.args.image.now word)
    (sym c.requires) (then_ok (answered c.in-Ok.ensures) (then_ok c.in-Ok-load.ensures
    (does_at (shows_mount symlinks_in c.args.decompress g.E.Order.order size (ls_says g.E.Order.order size part))
    c.as_slice-bytes.ensures.value
    (then_ok (answered c.others_if_none-others.ensures) (then_ok (answered c.in-Ok-mounted_tree.ensures)
    (does_at (λ (told : Told). prints (Lists m.state part told))
    (c.read_found.ensures ∙ ap (λ (e : Endian). read_told e size c.others_if_none-others.result m) c.requires)
    c.print_lines.ensures))))))

pub returns : goal.returns
returns g c =
    let word = option_map (λ p. p.now) c.args.path in
    let size = c.args.options.geometry.block in
    let part = option_map (λ path. path.items) c.in-Ok.part in
    does_at (λ (e : Endian). lists e size c.args.decompress c.args.image.now word)
    (sym c.requires) (then_ok (answered c.in-Ok.ensures) (then_ok c.in-Ok-load.ensures
    (does_at (shows_mount symlinks_in c.args.decompress g.E.Order.order size (ls_says g.E.Order.order size part))
    c.as_slice-bytes.ensures.value
    (then_ok (answered c.others_if_none-others.ensures) (then_err (answered c.in-Err-mounted_tree.ensures))))))
