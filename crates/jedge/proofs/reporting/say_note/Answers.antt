use Rattle.jedge.proofs.Steps.{said_put}
use Rattle.jedge.proofs.reporting.say_note.Goals as goal

pub returns : goal.returns
returns g c = said_put _ _ _ _ c.put_noted.result c.errors-errors.ensures.same
    c.errors-errors.ensures.sound c.errors-errors.ensures.empty c.put_noted.ensures
    c.close_errors.ensures
