use Rattle.jedge.proofs.Steps.{said_put}
use Rattle.jedge.proofs.reporting.say_fault.Goals as goal

pub returns : goal.returns
returns g c =
    let put = c.put_fault.ensures in (
      put.0,
      put.1,
      said_put _ _ _ _ c.put_fault.result c.errors-errors.ensures.same
          c.errors-errors.ensures.sound c.errors-errors.ensures.empty put.2 c.close_errors.ensures,
    )
