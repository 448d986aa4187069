use Rattle.jedge.proofs.Steps.{said_put}
use Rattle.jauto.proofs.looking.say_line.Goals as goal

pub returns : goal.returns
returns g c = said_put _ _ _ _ c.put_text.result c.errors-errors.ensures.same
    c.errors-errors.ensures.sound c.errors-errors.ensures.empty c.put_text.ensures.puts
    c.close_errors.ensures
