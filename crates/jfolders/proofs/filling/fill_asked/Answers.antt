use Rattle.jfolders.proofs.FolderSteps.{filled_done}
use Rattle.jfolders.proofs.filling.fill_asked.Goals as goal

pub returns : goal.returns
returns g c = filled_done _ _ c.extract_into-answer.result c.errors-errors.ensures.same
    c.requires.sound c.requires.empty c.errors-errors.ensures.sound c.errors-errors.ensures.empty
    c.extract_into-answer.ensures c.stop_of.ensures c.close_filled-reason.ensures
    c.close_errors.ensures c.filled.ensures
