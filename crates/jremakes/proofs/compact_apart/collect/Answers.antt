use Rattle.std.proofs.Common.{◌≡◌, ℕ, List, ap, length, refl, rules}
use Rattle.jcollect.specs.Tiles.{copied_image}
use Rattle.jreport.specs.FoundIn.{found_in}
use Rattle.jedge.specs.Acts.{prints_put}
use Rattle.jedge.specs.Told.{Told}
use Rattle.jedge.proofs.Steps.{answered, does_at, nothing_done, then_err, then_ok}
use Rattle.jmakes.specs.Making.{wanted_file}
use Rattle.jremakes.specs.Compacting.{compacted_line}
use Rattle.jremakes.specs.Leaving.{left_out_told}
use Rattle.jremakes.specs.Putting.{PutsAll, TellsLine, remakes}
use Rattle.jremakes.proofs.compact_apart.collect.Goals as goal

pub returns-in-Err : goal.returns-in-Err
returns-in-Err g c = then_err (answered c.in-Err.ensures.planned)

pub returns-in-Err-take_memory : goal.returns-in-Err-take_memory
returns-in-Err-take_memory g c = then_ok (answered c.in-Ok.ensures.planned)
    (then_err (nothing_done c.take_memory.ensures.same (refl, c.in-Err-take_memory.ensures.memory)))

pub returns-in-Err-make_image : goal.returns-in-Err-make_image
returns-in-Err-make_image g c =
    let e = g.E.Order.order in
    let size = c.args.geometry.block in
    let image = c.args.image.now in
    then_ok (answered c.in-Ok.ensures.planned)
    (then_ok (nothing_done c.take_memory.ensures.same (refl, tt))
    (then_err (does_at (λ (l : List ℕ).
    remakes (wanted_file c.args.file) (PutsAll (copied_image e size image l) (tt {0})))
    c.as_slice-addresses.ensures.value c.in-Err-make_image.ensures)))

pub returns-in-Ok-print_compacted : goal.returns-in-Ok-print_compacted
returns-in-Ok-print_compacted g c =
    let e = g.E.Order.order in
    let size = c.args.geometry.block in
    let image = c.args.image.now in
    let plan = c.in-Ok.planned.plan in
    let left = c.in-Ok.planned.left.items in
    let many : c.len.result ≡ length plan.addresses.items = search rules in
    then_ok (answered c.in-Ok.ensures.planned)
    (then_ok (nothing_done c.take_memory.ensures.same (refl, tt))
    (then_ok (does_at (λ (l : List ℕ).
    remakes (wanted_file c.args.file) (PutsAll (copied_image e size image l) (tt {0})))
    c.as_slice-addresses.ensures.value c.in-Ok-make_image.ensures)
    (does_at (λ (n : ℕ). prints_put (TellsLine (compacted_line n plan.nodes plan.bytes)
    (left_out_told left (found_in e size image))))
    many (does_at (λ (t : Told).
    prints_put (TellsLine (compacted_line c.len.result plan.nodes plan.bytes) t))
    (ap (left_out_told left) c.found_in.ensures)
    (c.in-Ok-print_compacted.ensures (left_out_told left c.found_in.result))))))

pub returns-in-Err-print_compacted : goal.returns-in-Err-print_compacted
returns-in-Err-print_compacted g c =
    let e = g.E.Order.order in
    let size = c.args.geometry.block in
    let image = c.args.image.now in
    let plan = c.in-Ok.planned.plan in
    let told = left_out_told c.in-Ok.planned.left.items (found_in e size image) in
    let many : c.len.result ≡ length plan.addresses.items = search rules in
    then_ok (answered c.in-Ok.ensures.planned)
    (then_ok (nothing_done c.take_memory.ensures.same (refl, tt))
    (then_ok (does_at (λ (l : List ℕ).
    remakes (wanted_file c.args.file) (PutsAll (copied_image e size image l) (tt {0})))
    c.as_slice-addresses.ensures.value c.in-Ok-make_image.ensures)
    (does_at (λ (n : ℕ). prints_put (TellsLine (compacted_line n plan.nodes plan.bytes) told))
    many (c.in-Err-print_compacted.ensures told))))
