use Rattle.jextract.proofs.OnceLemmas.{makes_through_directories}
use Rattle.jextract.proofs.laws.makes_through_directories.Goals as goal

pub returns : goal.returns
returns c = makes_through_directories
