use Rattle.jstops.proofs.LawLemmas.{stops_survive}
use Rattle.jstops.proofs.laws.stops_survive.Goals as goal

pub returns : goal.returns
returns c = stops_survive
