use Rattle.jdamage.proofs.LawLemmas.{sound_has_no_lines}
use Rattle.jdamage.proofs.laws.sound_has_no_lines.Goals as goal

pub returns : goal.returns
returns c = sound_has_no_lines
