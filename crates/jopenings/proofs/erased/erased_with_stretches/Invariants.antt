use Rattle.std.proofs.Common.{◌≡◌, ◌≤◌, ℕ}
use Rattle.std.specs.Prelude.{count_by}
use Rattle.flashbase.specs.Lists.{below}
use Rattle.jopenings.specs.Stretches.{AreStretches, block_in}
use Rattle.jopenings.proofs.CountLemmas.{is_left_erased}
use Rattle.jopenings.proofs.erased.erased_with_stretches.Given as goal

abbrev pub invariant-loop-block : goal.invariant-loop-block
invariant-loop-block l =
    let size = l.flash.geometry.block in
    record {
      count : l.count ≡ count_by (is_left_erased size l.flash.blocks l.image l.flash.stretches.now l.bytes) (below l.block);
      few : l.count ≤ l.block;
      upwards : AreStretches size l.block l.flash.blocks l.written.stretches.now;
      same : (b : ℕ) → l.block ≤ b → block_in size l.image l.written.stretches.now l.written.bytes.now b ≡ block_in size l.image l.flash.stretches.now l.bytes b;
    }
