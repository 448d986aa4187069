use Rattle.jforetells.proofs.ForetellLaws.{cuts_through_reads_only}
use Rattle.jforetells.proofs.laws.cuts_through_reads_only.Goals as goal

pub returns : goal.returns
returns c = cuts_through_reads_only
