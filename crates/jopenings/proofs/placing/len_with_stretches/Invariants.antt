use Rattle.std.proofs.Common.{◌≡◌, drop, length}
use Rattle.std.specs.Prelude.{max}
use Rattle.jopenings.specs.Stretches.{last_end, length_with}
use Rattle.jopenings.proofs.placing.len_with_stretches.Given as goal

abbrev pub invariant-loop-stretch : goal.invariant-loop-stretch
invariant-loop-stretch l =
    max l.len (last_end l.flash.geometry.block (drop l.stretch-index l.flash.stretches.now) l.left)
    ≡ length_with l.flash.geometry.block l.image l.flash.stretches.now l.bytes
