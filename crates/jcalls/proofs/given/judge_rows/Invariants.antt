use Rattle.std.proofs.Common.{take}
use Rattle.jcalls.specs.Files.{AreWithin}
use Rattle.jcalls.proofs.given.judge_rows.Given as goal

abbrev pub invariant-loop-i : goal.invariant-loop-i
invariant-loop-i l = AreWithin l.length (take l.i l.rows)
