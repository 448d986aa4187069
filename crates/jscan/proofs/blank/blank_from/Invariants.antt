use Rattle.std.proofs.Common.{◌≤◌}
use Rattle.jscan.specs.Blank.{AreBlankFrom}
use Rattle.jscan.specs.Image.{block_count}
use Rattle.jscan.proofs.blank.blank_from.Given as goal

abbrev pub invariant-loop-first : goal.invariant-loop-first
invariant-loop-first g l = record {
  blank : AreBlankFrom g.E.Order.order l.fn.geometry.block l.image l.fn.blocks l.first;
  few : l.first ≤ block_count l.fn.geometry.block l.image;
}

abbrev pub decreases-loop-first : goal.decreases-loop-first
decreases-loop-first g l = l.first
