use Rattle.jffs2_image.proofs.RunLawLemmas.{command_does_as_given}
use Rattle.jffs2_image.proofs.laws.auto_does_as_given.Goals as goal

pub returns : goal.returns
returns c = command_does_as_given
