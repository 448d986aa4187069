use Rattle.std.proofs.Common.{rules, ◌+◌, ◌≤◌, arith}
use Rattle.jlog.proofs.StepLemmas.{pad4_small}
use Rattle.jupdate.proofs.row.behind.Goals as goal

pub overflow_cast-result : goal.overflow_cast-result
overflow_cast-result c =
    let small : c.pad4.result ≤ 4194307 = omega (arith, c.pad4.ensures, pad4_small c.args.len) in
    search (rules, small)

pub overflow_add-result : goal.overflow_add-result
overflow_add-result c =
    let small : c.args.spot.at + c.pad4.result ≤ 8388611 = omega (arith, c.pad4.ensures, pad4_small c.args.len) in
    search (rules, small)
