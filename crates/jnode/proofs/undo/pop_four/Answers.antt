use Rattle.std.proofs.Common.{arith}
use Rattle.jnode.proofs.UndoLemmas.{pop_by_tables}
use Rattle.jnode.proofs.undo.pop_four.Goals as goal

pub returns : goal.returns
returns c = pop_by_tables c.args.remainder (omega arith)
