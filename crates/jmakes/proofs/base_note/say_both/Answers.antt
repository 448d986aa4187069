use Rattle.jedge.proofs.Steps.{said_put}
use Rattle.jmakes.proofs.base_note.say_both.Goals as goal

pub returns : goal.returns
returns g c = said_put _ _ _ _ c.put_notes.result c.errors-errors.ensures.same
    c.errors-errors.ensures.sound c.errors-errors.ensures.empty c.put_notes.ensures
    c.close_errors.ensures
