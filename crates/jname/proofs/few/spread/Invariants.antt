use Rattle.std.proofs.Common.{◌≡◌, ◌++◌, length}
use Rattle.jname.proofs.few.spread.Given as goal

abbrev pub invariant-loop-name : goal.invariant-loop-name
invariant-loop-name l = l.few.items ++ l.map.entries ≡ l.initial.few.items ++ l.initial.map.entries

abbrev pub decreases-loop-name : goal.decreases-loop-name
decreases-loop-name l = length l.few.items
