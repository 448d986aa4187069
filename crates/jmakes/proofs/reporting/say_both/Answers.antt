use Rattle.jedge.proofs.Steps.{said_put}
use Rattle.jmakes.proofs.reporting.say_both.Goals as goal

pub returns : goal.returns
returns g c = said_put _ _ _ _ c.put_both.result c.errors-errors.ensures.same
    c.errors-errors.ensures.sound c.errors-errors.ensures.empty c.put_both.ensures
    c.close_errors.ensures
