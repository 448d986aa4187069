use Rattle.std.proofs.Common.{◌≡◌, ◌+◌, cond, false, [], length}
use Rattle.jdamage.specs.Entering.{names_to_read}
use Rattle.jdamage.proofs.entered.Walk.next.Given as goal

abbrev pub invariant-loop-is_open : goal.invariant-loop-is_open
invariant-loop-is_open l = record {
  way : names_to_read l.fn.self ≡ names_to_read l.self;
  ended : l.is_open ≡ false → names_to_read l.self ≡ [];
}

abbrev pub decreases-loop-is_open : goal.decreases-loop-is_open
decreases-loop-is_open l = length l.self.above.items + cond l.is_open 1 0
