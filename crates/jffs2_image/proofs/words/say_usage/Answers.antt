use Rattle.std.proofs.Common.{refl}
use Rattle.jedge.proofs.Steps.{answered, said_put, then_ok}
use Rattle.jffs2_image.proofs.words.say_usage.Goals as goal

pub returns : goal.returns
returns g c = then_ok
    (said_put _ _ _ _ c.put_text.result c.errors-errors.ensures.same c.errors-errors.ensures.sound
    c.errors-errors.ensures.empty c.put_text.ensures c.close_errors.ensures)
    (answered refl)
