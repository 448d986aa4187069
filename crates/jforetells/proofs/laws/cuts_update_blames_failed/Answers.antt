use Rattle.jforetells.proofs.ForetellLaws.{cuts_update_blames_failed}
use Rattle.jforetells.proofs.laws.cuts_update_blames_failed.Goals as goal

pub returns : goal.returns
returns c = cuts_update_blames_failed
