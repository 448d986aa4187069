use Rattle.std.proofs.Common.{take, []}
use Rattle.jcalls.specs.Works.{AreGiven, listed_with}
use Rattle.jcalls.proofs.working.judge_lines.Given as goal

abbrev pub invariant-loop-i : goal.invariant-loop-i
invariant-loop-i l = AreGiven (listed_with [] l.named.files.bytes.now l.named.files.rows.now) (take l.i l.lines)
