use Rattle.jconvert.proofs.ApartLemmas.{located_are_in_order, located_are_expanded}
use Rattle.jconvert.proofs.ApartLawLemmas.{apart_is_image, apart_mounts, apart_has_no_root}
use Rattle.jconvert.proofs.RoomLemmas.{stay_have_room}
use Rattle.jconvert.proofs.laws.apart_mounts.Goals as goal

pub returns-clause-order : goal.returns-clause-order
returns-clause-order c = located_are_in_order

pub returns-clause-expanded : goal.returns-clause-expanded
returns-clause-expanded c = located_are_expanded

pub returns-clause-room : goal.returns-clause-room
returns-clause-room c = stay_have_room

pub returns-clause-image : goal.returns-clause-image
returns-clause-image c = apart_is_image

pub returns-clause-mounts : goal.returns-clause-mounts
returns-clause-mounts c = apart_mounts

pub returns-clause-root : goal.returns-clause-root
returns-clause-root c = apart_has_no_root
