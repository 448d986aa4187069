use Rattle.std.proofs.Common.{◌≡◌, take, sym, ap, ◌∙◌, arith}
use Rattle.std.proofs.lemmas.List.{take_all, length-set}
use Rattle.jnode.proofs.OrderLemmas.{take-set}
use Rattle.jnode.proofs.header.front_of.Goals as goal

pub loop-i-preserved : goal.loop-i-preserved
loop-i-preserved c = (
  length-set c.loop-i.front c.loop-i.i c.byte_in.result ∙ c.loop-i.invariant.0,
  take-set c.loop-i.i c.byte_in.result c.loop-i.front c.args.rest.now (omega arith) (omega arith) c.byte_in.ensures c.loop-i.invariant.1,
)

pub returns : goal.returns
returns c =
    let all : c.loop-i.i ≡ 12 = omega arith in
    sym (take_all 12 c.loop-i.front (omega arith)) ∙ sym (ap (λ n. take n c.loop-i.front) all) ∙ c.loop-i.invariant.1 ∙ ap (λ n. take n c.args.rest.now) all
