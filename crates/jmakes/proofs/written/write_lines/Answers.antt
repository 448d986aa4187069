use Rattle.std.proofs.Common.{List, ℕ}
use Rattle.jbuild.specs.HostFiles.{part_contents}
use Rattle.jedge.specs.Images.{MountsOrRefuses}
use Rattle.jedge.specs.Told.{Told}
use Rattle.jedge.proofs.Steps.{answered, answered_at, does_at, then_err, then_ok}
use Rattle.jmakes.specs.Seen.{image_to_write, numbered_seen}
use Rattle.jmakes.specs.Writing.{writes_on}
use Rattle.jmakes.proofs.LineLemmas.{same_length}
use Rattle.jmakes.proofs.written.write_lines.Goals as goal

pub returns-in-Err : goal.returns-in-Err
returns-in-Err g c = then_err (answered c.in-Err.ensures)

pub write_on-requires-clause-numbered : goal.write_on-requires-clause-numbered
write_on-requires-clause-numbered g c = same_length g.E.Order.order (part_contents c.args.files.now) c.args.lines.items (numbered_seen c.in-Ok.of) c.in-Ok.ensures

pub write_on-requires-clause-mount : goal.write_on-requires-clause-mount
write_on-requires-clause-mount g c = c.in-Ok-mounted.ensures.1

pub returns-in-Ok-mounted : goal.returns-in-Ok-mounted
returns-in-Ok-mounted g c =
    let e = g.E.Order.order in
    let image = c.args.image in
    then_ok (answered c.in-Ok.ensures)
    (then_ok (answered_at (λ (bytes : List ℕ). MountsOrRefuses e image.flash.geometry.block bytes) c.base_image-bytes.ensures c.in-Ok-mounted.ensures)
    (does_at (λ (base : Told). writes_on (image_to_write e image) base c.in-Ok-mounted.mounted (numbered_seen c.in-Ok.of)) c.note_on-note.ensures c.write_on.ensures))

pub returns : goal.returns
returns g c =
    then_ok (answered c.in-Ok.ensures)
    (then_err (answered_at (λ (bytes : List ℕ). MountsOrRefuses g.E.Order.order c.args.image.flash.geometry.block bytes) c.base_image-bytes.ensures c.in-Err-mounted.ensures))
