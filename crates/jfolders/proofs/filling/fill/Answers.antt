use Rattle.jedge.proofs.Steps.{then_err, then_ok}
use Rattle.jfolders.proofs.FolderSteps.{asked_sound}
use Rattle.jfolders.proofs.KnownLemmas.{still_known}
use Rattle.jfolders.proofs.filling.fill.Goals as goal

pub fill_asked-requires-clause-sound : goal.fill_asked-requires-clause-sound
fill_asked-requires-clause-sound g c = asked_sound c.in-Ok.ensures.asks

pub fill_asked-requires-clause-empty : goal.fill_asked-requires-clause-empty
fill_asked-requires-clause-empty g c = still_known _ _ c.in-Ok.ensures.asks c.in-Ok.ensures.empty

pub returns-in-Ok : goal.returns-in-Ok
returns-in-Ok g c = then_ok c.in-Ok.ensures.asks c.fill_asked.ensures

pub returns-in-Err : goal.returns-in-Err
returns-in-Err g c = then_err c.in-Err.ensures.asks
