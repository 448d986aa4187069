use Rattle.std.proofs.Common.{◌-◌, arith}
use Rattle.jmount.specs.Shown.{readable}
use Rattle.jdiff.proofs.ByteLemmas.{same_zeros}
use Rattle.jdiff.proofs.bytes.common_hole.Goals as goal

pub returns-clause-same : goal.returns-clause-same
returns-clause-same c =
    let xs = readable c.args.left.now.state c.args.left_ino in
    let ys = readable c.args.right.now.state c.args.right_ino in
    same_zeros xs ys c.args.offset (c.min.result - c.args.offset) (omega arith) (omega arith)
    (λ i from to. c.hole_end-ours.ensures.zeros i from (omega arith)) (λ i from to. c.hole_end-theirs.ensures.zeros i from (omega arith))
