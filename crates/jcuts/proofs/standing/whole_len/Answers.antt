use Rattle.std.proofs.Common.{arith, ◌∙◌, sym}
use Rattle.jcuts.proofs.WholeLemmas.{whole_len_less, whole_len_all}
use Rattle.jcuts.proofs.standing.whole_len.Goals as goal

pub loop-len-preserved : goal.loop-len-preserved
loop-len-preserved c =
    let n = c.loop-len.len in
    let inv = c.loop-len.invariant in
    record {
      within = omega arith;
      same = whole_len_less c.args.node.now n (omega arith) inv.within c.if-node-len.true ∙ inv.same;
    }

pub returns-else-node-len-clause-len : goal.returns-else-node-len-clause-len
returns-else-node-len-clause-len c =
    let n = c.loop-len.len in
    let inv = c.loop-len.invariant in
    sym (whole_len_all c.args.node.now n (omega arith) inv.within c.if-node-len.false) ∙ inv.same
