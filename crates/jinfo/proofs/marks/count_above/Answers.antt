use Rattle.std.proofs.Common.{◌-◌, ◌*◌, arith}
use Rattle.jinfo.proofs.SizeLemmas.{no_multiple}
use Rattle.jinfo.proofs.marks.count_above.Goals as goal

pub returns-clause-none : goal.returns-clause-none
returns-clause-none c = λ k less. no_multiple c.args.common (4194304 - 4 * k) (omega arith) (omega arith)
