use Rattle.jffs2_image.proofs.RunLemmas.{ran_command, ran_refused, refusal}
use Rattle.jffs2_image.proofs.program.run.Goals as goal

pub returns-in-Ok : goal.returns-in-Ok
returns-in-Ok g c = ran_command c.in-Ok.ensures.ok c.in-Ok.ensures.faultless c.run_request.ensures

pub returns-in-Err : goal.returns-in-Err
returns-in-Err g c = ran_refused c.in-Err.fault (refusal _ c.in-Err.fault c.in-Err.ensures.help c.in-Err.ensures.usage) c.answer_refused.ensures
