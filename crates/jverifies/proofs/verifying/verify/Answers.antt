use Rattle.jedge.proofs.Steps.{answered, does_at, then_err, then_ok}
use Rattle.jcommand.specs.Parsed.{verification_view}
use Rattle.jverifies.specs.Verifying.{compares_image}
use Rattle.jverifies.proofs.verifying.verify.Goals as goal

pub returns-in-Err : goal.returns-in-Err
returns-in-Err g c = then_err c.in-Err.ensures

pub returns-in-Err-judge_nodes : goal.returns-in-Err-judge_nodes
returns-in-Err-judge_nodes g c =
    then_ok c.in-Ok.ensures (does_at (compares_image g.E.Order.order (verification_view c.args.asked)) c.as_slice-bytes.ensures.value
    (then_err (answered c.in-Err-judge_nodes.ensures)))

pub returns-in-Ok-mounted_as : goal.returns-in-Ok-mounted_as
returns-in-Ok-mounted_as g c =
    then_ok c.in-Ok.ensures (does_at (compares_image g.E.Order.order (verification_view c.args.asked)) c.as_slice-bytes.ensures.value
    (then_ok (answered c.in-Ok-judge_nodes.ensures)
    (then_ok (answered c.in-Ok-mounted_as.ensures) c.compare_folder.ensures)))

pub returns : goal.returns
returns g c =
    then_ok c.in-Ok.ensures (does_at (compares_image g.E.Order.order (verification_view c.args.asked)) c.as_slice-bytes.ensures.value
    (then_ok (answered c.in-Ok-judge_nodes.ensures)
    (then_err (answered c.in-Err-mounted_as.ensures))))
