use Rattle.std.proofs.Common.{ℕ, List, None, sym}
use Rattle.jnode.specs.declared.order.Endian.{Endian}
use Rattle.std.specs.Borrow.{Bor}
use Rattle.std.specs.Prelude.{option_map}
use Rattle.jcommand.specs.Parsed.{extraction_view}
use Rattle.jcommand.specs.declared.parsed.Extraction.{Extraction}
use Rattle.jedge.proofs.Steps.{answered, does_at, then_err, then_ok}
use Rattle.jfolders.specs.Commands.{extract_act, extracts_image, extracts_part}
use Rattle.jfolders.proofs.extracting.extract.Goals as goal

abbrev in_order : Endian → Extraction (Bor (List ℕ)) → Extraction (List ℕ)
in_order e asked =
    record (extraction_view asked) { options = record asked.options { endian = e } }

pub returns-in-Err : goal.returns-in-Err
returns-in-Err g c = then_err (answered c.in-Err.ensures)

pub returns-in-Err-load : goal.returns-in-Err-load
returns-in-Err-load g c =
    does_at (λ (e : Endian). extract_act (in_order e c.args.asked)) (sym c.requires)
    (then_ok (answered c.in-Ok.ensures) (then_err c.in-Err-load.ensures))

pub returns-in-Err-judge_nodes : goal.returns-in-Err-judge_nodes
returns-in-Err-judge_nodes g c =
    let part = option_map (λ path. path.items) c.in-Ok.path in
    does_at (λ (e : Endian). extract_act (in_order e c.args.asked)) (sym c.requires)
    (then_ok (answered c.in-Ok.ensures) (then_ok c.in-Ok-load.ensures
    (does_at (extracts_image (in_order g.E.Order.order c.args.asked) part) c.as_slice-bytes.ensures.value
    (then_err (answered c.in-Err-judge_nodes.ensures)))))

pub returns-in-Ok-mounted_for : goal.returns-in-Ok-mounted_for
returns-in-Ok-mounted_for g c =
    let part = option_map (λ path. path.items) c.in-Ok.path in
    does_at (λ (e : Endian). extract_act (in_order e c.args.asked)) (sym c.requires)
    (then_ok (answered c.in-Ok.ensures) (then_ok c.in-Ok-load.ensures
    (does_at (extracts_image (in_order g.E.Order.order c.args.asked) part) c.as_slice-bytes.ensures.value
    (then_ok (answered c.in-Ok-judge_nodes.ensures)
    (then_ok (answered c.in-Ok-mounted_for.ensures)
    (does_at (λ (e : Endian). extracts_part (in_order e c.args.asked) part c.in-Ok-mounted_for.mounted)
    c.requires c.extract_mounted.ensures))))))

pub returns : goal.returns
returns g c =
    let part = option_map (λ path. path.items) c.in-Ok.path in
    does_at (λ (e : Endian). extract_act (in_order e c.args.asked)) (sym c.requires)
    (then_ok (answered c.in-Ok.ensures) (then_ok c.in-Ok-load.ensures
    (does_at (extracts_image (in_order g.E.Order.order c.args.asked) part) c.as_slice-bytes.ensures.value
    (then_ok (answered c.in-Ok-judge_nodes.ensures)
    (then_err (answered c.in-Err-mounted_for.ensures))))))
