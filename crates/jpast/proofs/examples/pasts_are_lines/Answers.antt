use Rattle.std.proofs.Common.{refl}
use Rattle.std.specs.Fmt.{digits}
use Rattle.jline.specs.Words.{hex}
use Rattle.jpast.specs.PastText.{past_line}
use Rattle.jpast.proofs.examples.pasts_are_lines.Goals as goal

pub returns : goal.returns
unfolding digits hex past_line
returns c = refl
