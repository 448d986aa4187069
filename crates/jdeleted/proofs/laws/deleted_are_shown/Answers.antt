use Rattle.jdeleted.proofs.ApartLemmas.{flat_has_names}
use Rattle.jdeleted.proofs.ObjectLemmas.{flat_has_objects}
use Rattle.jdeleted.proofs.laws.deleted_are_shown.Goals as goal

pub returns-clause-objects : goal.returns-clause-objects
returns-clause-objects c = flat_has_objects

pub returns-clause-names : goal.returns-clause-names
returns-clause-names c = flat_has_names
