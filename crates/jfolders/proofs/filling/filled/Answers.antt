use Rattle.jfolders.proofs.FolderSteps.{filling_failed}
use Rattle.jfolders.proofs.filling.filled.Goals as goal

pub returns-in-Err : goal.returns-in-Err
returns-in-Err c = filling_failed c.args.name.now c.args.reason c.args.answer c.in-Err.why _
    c.in-Err.is c.filling_fault.ensures
