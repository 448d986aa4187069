use Rattle.std.proofs.Common.{◌≡◌, ◌≤◌, ◌∙◌, ℕ, Bool, ap, arith}
use Rattle.jscan.proofs.StreamCounts.{readable_some}
use Rattle.jreserve.specs.Erased.{is_all_erased}
use Rattle.jopenings.proofs.CountLemmas.{count_next, erased_are_counted, is_left_erased, one_at_most, one_if}
use Rattle.std.specs.Prelude.{count_by}
use Rattle.flashbase.specs.Lists.{below}
use Rattle.jopenings.proofs.erased.erased_with_stretches.Goals as goal

pub loop-block-preserved : goal.loop-block-preserved
loop-block-preserved c =
    let flash = c.args.flash.now in
    let p : ℕ → Bool = is_left_erased flash.geometry.block flash.blocks c.args.image.now flash.stretches.now c.args.bytes.now in
    let before = c.loop-block.invariant in
    let is : c.is_erased_block.result ≡ p c.loop-block.block =
    c.is_erased_block.ensures ∙ ap is_all_erased (c.step_to-step.ensures.block ∙ before.same c.loop-block.block (omega arith)) in
    let one : c.one_if-count.result ≡ one_if (p c.loop-block.block) = c.one_if-count.ensures ∙ ap one_if is in
    let few : one_if (p c.loop-block.block) ≤ 1 = one_at_most (p c.loop-block.block) in
    record {
      count = omega (arith, before.count, one, count_next p c.loop-block.block);
      few = omega (arith, before.few, one, few);
      upwards = c.step_to-step.ensures.stretches;
      same = λ b high. c.step_to-step.ensures.later b (omega (arith, high)) ∙ before.same b (omega (arith, high));
    }

pub returns : goal.returns
returns c =
    let flash = c.args.flash.now in
    let p : ℕ → Bool = is_left_erased flash.geometry.block flash.blocks c.args.image.now flash.stretches.now c.args.bytes.now in
    let end : c.loop-block.block ≡ flash.blocks = omega (arith, c.loop-block-test.false, c.loop-block.auto.block-end) in
    c.loop-block.invariant.count ∙ ap (λ (n : ℕ). count_by p (below n)) end
    ∙ erased_are_counted flash.geometry.block flash.blocks c.args.image.now flash.stretches.now c.args.bytes.now (omega (arith, readable_some flash.geometry.block c.requires.readable))
