use Rattle.std.proofs.Common.{◌≡◌, ℕ, ap, length, refl, rules}
use Rattle.jreport.specs.ConvertedLine.{decompressed_line}
use Rattle.jreport.specs.FoundIn.{found_in}
use Rattle.jedge.specs.Acts.{prints_put}
use Rattle.jedge.specs.Told.{Told}
use Rattle.jedge.proofs.Steps.{answered, does_at, nothing_done, then_err, then_ok}
use Rattle.jremakes.specs.Leaving.{left_out_told}
use Rattle.jremakes.specs.Putting.{TellsLine}
use Rattle.jremakes.proofs.apart.leave_out.Goals as goal

pub returns-in-Err : goal.returns-in-Err
returns-in-Err g c = then_err (answered c.in-Err.ensures.judged)

pub returns-in-Err-parted : goal.returns-in-Err-parted
returns-in-Err-parted g c =
    then_ok (answered c.in-Ok.ensures.judged) (then_err (answered c.in-Err-parted.ensures))

pub returns-in-Err-take_memory : goal.returns-in-Err-take_memory
returns-in-Err-take_memory g c = then_ok (answered c.in-Ok.ensures.judged)
    (then_ok (answered c.in-Ok-parted.ensures)
    (then_err (nothing_done c.take_memory.ensures.same (refl, c.in-Err-take_memory.ensures.memory))))

pub returns-in-Err-make_image : goal.returns-in-Err-make_image
returns-in-Err-make_image g c =
    then_ok (answered c.in-Ok.ensures.judged) (then_ok (answered c.in-Ok-parted.ensures)
    (then_ok (nothing_done c.take_memory.ensures.same (refl, tt))
    (then_err c.in-Err-make_image.ensures)))

pub returns-in-Ok-print_converted : goal.returns-in-Ok-print_converted
returns-in-Ok-print_converted g c =
    let left = c.in-Ok-parted.parted.left.items in
    let stay = c.in-Ok-parted.parted.stay.items in
    let many : c.len.result ≡ length stay = search rules in
    let told = left_out_told left c.found_in.result in
    then_ok (answered c.in-Ok.ensures.judged) (then_ok (answered c.in-Ok-parted.ensures)
    (then_ok (nothing_done c.take_memory.ensures.same (refl, tt))
    (then_ok c.in-Ok-make_image.ensures
    (does_at (λ (n : ℕ). prints_put (TellsLine (decompressed_line c.in-Ok.judged.told.changed n
    c.in-Ok-make_image.bytes)
    (left_out_told left (found_in g.E.Order.order c.args.geometry.block c.args.image.now))))
    many (does_at (λ (t : Told). prints_put (TellsLine (decompressed_line
    c.in-Ok.judged.told.changed c.len.result c.in-Ok-make_image.bytes) t))
    (ap (left_out_told left) c.found_in.ensures)
    (c.in-Ok-print_converted.ensures told))))))

pub returns : goal.returns
returns g c =
    let left = c.in-Ok-parted.parted.left.items in
    let found = found_in g.E.Order.order c.args.geometry.block c.args.image.now in
    let stay = c.in-Ok-parted.parted.stay.items in
    let many : c.len.result ≡ length stay = search rules in
    let told = left_out_told left found in
    then_ok (answered c.in-Ok.ensures.judged) (then_ok (answered c.in-Ok-parted.ensures)
    (then_ok (nothing_done c.take_memory.ensures.same (refl, tt))
    (then_ok c.in-Ok-make_image.ensures
    (does_at (λ (n : ℕ). prints_put (TellsLine (decompressed_line c.in-Ok.judged.told.changed n
    c.in-Ok-make_image.bytes) told)) many (c.in-Err-print_converted.ensures told)))))
