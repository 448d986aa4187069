use Rattle.std.proofs.Common.{drop}
use Rattle.jcalls.specs.Files.{HoldsFiles}
use Rattle.jcalls.proofs.named.ByName.of.Given as goal

abbrev pub invariant-loop-i : goal.invariant-loop-i
invariant-loop-i l = HoldsFiles l.files.bytes.now (drop l.i l.files.rows.now) l.held
