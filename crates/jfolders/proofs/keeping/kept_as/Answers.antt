use Rattle.jfolders.proofs.FolderSteps.{keeping_failed}
use Rattle.jfolders.proofs.keeping.kept_as.Goals as goal

pub returns-in-Err : goal.returns-in-Err
returns-in-Err c = keeping_failed c.args.name.now c.args.closed c.args.answer c.in-Err.why _
    c.in-Err.is c.reading_fault.ensures
