use Rattle.jforetells.proofs.ForetellLaws.{cuts_update_reads_only}
use Rattle.jforetells.proofs.laws.cuts_update_reads_only.Goals as goal

pub returns : goal.returns
returns c = cuts_update_reads_only
