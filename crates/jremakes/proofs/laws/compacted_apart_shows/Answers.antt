use Rattle.jremakes.proofs.ShownLemmas.{compacted_apart_shows}
use Rattle.jremakes.proofs.laws.compacted_apart_shows.Goals as goal

pub returns : goal.returns
returns c = compacted_apart_shows
