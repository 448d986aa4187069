use Rattle.std.proofs.Common.{arith}
use Rattle.jrow.proofs.RowCodeLemmas.{row_few}
use Rattle.jrow.proofs.row.Row.start.Goals as goal

pub overflow_cast-result : goal.overflow_cast-result
overflow_cast-result c = omega (arith, row_few c.args.blocks c.args.self.now c.requires.row, c.len.ensures)

pub overflow_sub-result : goal.overflow_sub-result
overflow_sub-result c = omega (arith, row_few c.args.blocks c.args.self.now c.requires.row, c.len.ensures)
