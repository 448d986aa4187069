use Rattle.jextract.proofs.ContentsLemmas.{holes_read_back}
use Rattle.jextract.proofs.laws.holes_read_back.Goals as goal

pub returns : goal.returns
returns c = holes_read_back
