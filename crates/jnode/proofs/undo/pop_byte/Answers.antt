use Rattle.std.proofs.Common.{arith}
use Rattle.jnode.proofs.UndoLemmas.{pop_by_table}
use Rattle.jnode.proofs.undo.pop_byte.Goals as goal

pub returns : goal.returns
returns c = pop_by_table c.args.remainder (omega arith)
