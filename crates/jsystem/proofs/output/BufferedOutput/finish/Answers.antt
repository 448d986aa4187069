use Rattle.jsystem.proofs.OutputLemmas.{out_in_part}
use Rattle.jsystem.proofs.output.BufferedOutput.finish.Goals as goal

pub returns-in_default-clause-part : goal.returns-in_default-clause-part
returns-in_default-clause-part g c = out_in_part _ _ _ _ _ c.fill_up-filled.result c.fill_up-filled.ensures.all c.fill_up-filled.ensures.part c.empty-emptied.ensures.taken c.empty-emptied.ensures.part
