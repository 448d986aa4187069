use Rattle.std.proofs.Common.{ap, refl}
use Rattle.jreport.specs.ConvertedLine.{compression_line}
use Rattle.jreport.specs.FoundIn.{found_in}
use Rattle.jedge.specs.Acts.{prints_put}
use Rattle.jedge.specs.Told.{Told}
use Rattle.jedge.proofs.Steps.{answered, does_at, nothing_done, then_err, then_ok}
use Rattle.jremakes.specs.Leaving.{remade_told}
use Rattle.jremakes.specs.Putting.{TellsLine}
use Rattle.jremakes.proofs.compress.pack.Goals as goal

pub returns-in-Err : goal.returns-in-Err
returns-in-Err g c = then_err (answered c.in-Err.ensures.judged)

pub returns-in-Err-take_memory : goal.returns-in-Err-take_memory
returns-in-Err-take_memory g c = then_ok (answered c.in-Ok.ensures.judged)
    (then_err (nothing_done c.take_memory.ensures.same (refl, c.in-Err-take_memory.ensures.memory)))

pub returns-in-Err-make_image : goal.returns-in-Err-make_image
returns-in-Err-make_image g c =
    then_ok (answered c.in-Ok.ensures.judged)
    (then_ok (nothing_done c.take_memory.ensures.same (refl, tt))
    (then_err c.in-Err-make_image.ensures))

pub returns-in-Ok-print_packed : goal.returns-in-Ok-print_packed
returns-in-Ok-print_packed g c =
    let done = c.in-Ok-make_image.done in
    then_ok (answered c.in-Ok.ensures.judged)
    (then_ok (nothing_done c.take_memory.ensures.same (refl, tt))
    (then_ok c.in-Ok-make_image.ensures
    (does_at (λ (t : Told). prints_put (TellsLine (compression_line done.0 c.in-Ok.nodes done.1) t))
    (ap remade_told c.found_in.ensures)
    (c.in-Ok-print_packed.ensures (remade_told c.found_in.result)))))

pub returns-in-Err-print_packed : goal.returns-in-Err-print_packed
returns-in-Err-print_packed g c =
    let found = found_in g.E.Order.order c.args.geometry.block c.args.image.now in
    then_ok (answered c.in-Ok.ensures.judged)
    (then_ok (nothing_done c.take_memory.ensures.same (refl, tt))
    (then_ok c.in-Ok-make_image.ensures
    (c.in-Err-print_packed.ensures (remade_told found))))
