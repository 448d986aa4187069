use Rattle.std.proofs.Common.{ℕ, List, None, refl}
use Rattle.jedge.specs.Images.{HasNodes}
use Rattle.jedge.proofs.Steps.{answered, answered_at, then_err, then_ok}
use Rattle.jremakes.specs.Asked.{MayBeReplaced, remaking_of}
use Rattle.jremakes.proofs.original.take.Goals as goal

pub returns-in-Err : goal.returns-in-Err
returns-in-Err g c = then_ok c.is_one_file-over.ensures (then_err c.in-Err.ensures)

pub returns-in-Err-judge_nodes : goal.returns-in-Err-judge_nodes
returns-in-Err-judge_nodes g c =
    let size = c.args.asked.options.geometry.block in
    then_ok c.is_one_file-over.ensures (then_ok c.in-Ok.ensures
    (then_err (answered_at (λ (b : List ℕ). HasNodes g.E.Order.order size None b)
    c.as_slice.ensures.value c.in-Err-judge_nodes.ensures)))

pub returns-in-Ok-judge_replaced : goal.returns-in-Ok-judge_replaced
returns-in-Ok-judge_replaced g c =
    let size = c.args.asked.options.geometry.block in
    let asked = remaking_of c.args.asked in
    then_ok c.is_one_file-over.ensures (then_ok c.in-Ok.ensures
    (then_ok (answered_at (λ (b : List ℕ). HasNodes g.E.Order.order size None b)
    c.as_slice.ensures.value c.in-Ok-judge_nodes.ensures)
    (then_ok (answered_at (λ (b : List ℕ). MayBeReplaced g.E.Order.order asked
    c.is_one_file-over.result b) c.as_slice-2.ensures.value c.in-Ok-judge_replaced.ensures)
    (answered refl))))

pub returns-in-Err-judge_replaced : goal.returns-in-Err-judge_replaced
returns-in-Err-judge_replaced g c =
    let size = c.args.asked.options.geometry.block in
    let asked = remaking_of c.args.asked in
    then_ok c.is_one_file-over.ensures (then_ok c.in-Ok.ensures
    (then_ok (answered_at (λ (b : List ℕ). HasNodes g.E.Order.order size None b)
    c.as_slice.ensures.value c.in-Ok-judge_nodes.ensures)
    (then_err (answered_at (λ (b : List ℕ). MayBeReplaced g.E.Order.order asked
    c.is_one_file-over.result b) c.as_slice-2.ensures.value c.in-Err-judge_replaced.ensures))))
