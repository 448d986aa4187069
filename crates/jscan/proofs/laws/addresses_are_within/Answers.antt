use Rattle.jscan.proofs.AddressLaws.{sightings_within, sightings_small}
use Rattle.jscan.proofs.laws.addresses_are_within.Goals as goal

pub returns-clause-within : goal.returns-clause-within
returns-clause-within c = sightings_within

pub returns-clause-small : goal.returns-clause-small
returns-clause-small c = sightings_small
