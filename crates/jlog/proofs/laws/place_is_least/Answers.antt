use Rattle.jlog.proofs.PlaceLemmas.{place_is_least}
use Rattle.jlog.proofs.IntactLemmas.{places_are_least}
use Rattle.jlog.proofs.laws.place_is_least.Goals as goal

pub returns-clause-place : goal.returns-clause-place
returns-clause-place c = place_is_least

pub returns-clause-places : goal.returns-clause-places
returns-clause-places c = places_are_least
