use Rattle.jversions.proofs.LawLemmas.{last_is_readable, last_is_shown}
use Rattle.jversions.proofs.laws.last_revision_is_shown.Goals as goal

pub returns : goal.returns
returns c = record { object = last_is_shown; bytes = last_is_readable }
