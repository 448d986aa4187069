use Rattle.std.proofs.Common.{ℕ, List, ap, subst, sym}
use Rattle.jnode.specs.declared.order.Endian.{Endian}
use Rattle.jlook.specs.Chosen.{object_by_path}
use Rattle.jedge.specs.Acts.{prints}
use Rattle.jedge.specs.Commands.{cat_says, cats, shows_mount}
use Rattle.jedge.specs.Images.{MountsFor}
use Rattle.jedge.proofs.MissingLemmas.{scannable_for}
use Rattle.jedge.proofs.Steps.{answered, answered_at, does_at, then_err, then_ok}
use Rattle.jedge.proofs.cat.cat.Goals as goal

pub returns-in-Err : goal.returns-in-Err
returns-in-Err g c = then_err (answered c.in-Err.ensures)

pub returns-in-Err-load : goal.returns-in-Err-load
returns-in-Err-load g c =
    let asked = c.args.asked in
    does_at (λ (e : Endian). cats e asked.options.geometry.block asked.decompress asked.strict asked.image.now asked.path.now)
    (sym c.requires) (then_ok (answered c.in-Ok.ensures) (then_err c.in-Err-load.ensures))

pub print_content-requires-clause-scannable : goal.print_content-requires-clause-scannable
print_content-requires-clause-scannable g c =
    scannable_for (object_by_path c.as_slice-names.result.now) c.args.asked.decompress g.E.Order.order c.args.asked.options.geometry.block c.as_slice-bytes.result.now
    c.in-Ok-mounted_object.mounted c.in-Ok-mounted_object.ensures

pub returns-in-Ok-mounted_object : goal.returns-in-Ok-mounted_object
returns-in-Ok-mounted_object g c =
    let asked = c.args.asked in
    let size = asked.options.geometry.block in
    let path = c.in-Ok.path.items in
    let m = c.in-Ok-mounted_object.mounted in
    does_at (λ (e : Endian). cats e size asked.decompress asked.strict asked.image.now asked.path.now)
    (sym c.requires) (then_ok (answered c.in-Ok.ensures) (then_ok c.in-Ok-load.ensures
    (does_at (shows_mount (object_by_path path) asked.decompress g.E.Order.order size (cat_says g.E.Order.order size asked.strict path))
    c.as_slice-bytes.ensures.value
    (then_ok (answered c.others_if_none-others.ensures) (then_ok
    (answered_at (λ (p : List ℕ). MountsFor (object_by_path p) asked.decompress g.E.Order.order size c.as_slice-bytes.result.now)
    c.as_slice-names.ensures.value c.in-Ok-mounted_object.ensures)
    (does_at (λ (p : List ℕ). prints (cat_says g.E.Order.order size asked.strict p c.others_if_none-others.result m))
    c.as_slice-names.ensures.value c.print_content.ensures))))))

pub returns : goal.returns
returns g c =
    let asked = c.args.asked in
    let size = asked.options.geometry.block in
    let path = c.in-Ok.path.items in
    does_at (λ (e : Endian). cats e size asked.decompress asked.strict asked.image.now asked.path.now)
    (sym c.requires) (then_ok (answered c.in-Ok.ensures) (then_ok c.in-Ok-load.ensures
    (does_at (shows_mount (object_by_path path) asked.decompress g.E.Order.order size (cat_says g.E.Order.order size asked.strict path))
    c.as_slice-bytes.ensures.value
    (then_ok (answered c.others_if_none-others.ensures) (then_err
    (answered_at (λ (p : List ℕ). MountsFor (object_by_path p) asked.decompress g.E.Order.order size c.as_slice-bytes.result.now)
    c.as_slice-names.ensures.value c.in-Err-mounted_object.ensures))))))
