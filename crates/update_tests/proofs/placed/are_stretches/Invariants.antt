use Rattle.std.proofs.Common.{drop}
use Rattle.jopenings.specs.Stretches.{AreStretches}
use Rattle.update_tests.proofs.placed.are_stretches.Given as goal

abbrev pub invariant-loop-stretch : goal.invariant-loop-stretch
invariant-loop-stretch l =
    AreStretches l.flash.geometry.block l.from l.flash.blocks (drop l.stretch-index l.stretches)
    → AreStretches l.flash.geometry.block 0 l.flash.blocks l.stretches
