use Rattle.jscan.proofs.SightingLaws.{sightings_are_extents}
use Rattle.jscan.proofs.laws.sightings_are_extents.Goals as goal

pub returns : goal.returns
returns c = sightings_are_extents
