use Rattle.jbuild.proofs.LengthLemmas.{line_tells_length, places_tell_length}
use Rattle.jbuild.proofs.laws.line_tells_length.Goals as goal

pub returns-clause-places : goal.returns-clause-places
returns-clause-places c = places_tell_length

pub returns-clause-line : goal.returns-clause-line
returns-clause-line c = line_tells_length
