use Rattle.jfolders.proofs.FolderSteps.{read_failed}
use Rattle.jfolders.proofs.reading.read_as.Goals as goal

pub returns-in-Err : goal.returns-in-Err
returns-in-Err c = read_failed c.args.name.now c.args.reason c.args.answer c.in-Err.why _ c.in-Err.is
    c.reading_fault.ensures
