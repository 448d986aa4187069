use Rattle.jdamage.proofs.PathLemmas.{has_path}
use Rattle.jdamage.proofs.laws.directory_has_path.Goals as goal

pub returns : goal.returns
returns c s dir names few on there = has_path s few dir names on there
