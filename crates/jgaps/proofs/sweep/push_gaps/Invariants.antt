use Rattle.std.proofs.Common.{ℕ, Bool, ◌++◌, drop, map}
use Rattle.jgaps.specs.Gaps.{gap_of, gaps_below}
use Rattle.jgaps.specs.Sweeping.{Cover, Swept}
use Rattle.jgaps.proofs.sweep.push_gaps.Given as goal

abbrev pub invariant-loop-stretch : goal.invariant-loop-stretch
invariant-loop-stretch l = (covered : ℕ → Bool) → Cover covered l.size l.ranges
    → Swept l.ino l.size covered (l.fn.gaps.items ++ map (gap_of l.ino) (gaps_below covered l.size)) (drop l.stretch-index l.ranges) l.gaps.items l.reach
