use Rattle.jforetells.proofs.ForetellLaws.{cuts_through_blames_failed}
use Rattle.jforetells.proofs.laws.cuts_through_blames_failed.Goals as goal

pub returns : goal.returns
returns c = cuts_through_blames_failed
