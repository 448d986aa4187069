use Rattle.jconvert.proofs.LawLemmas.{converted_is_image, converted_mounts, converted_has_no_root, converted_clashes}
use Rattle.jconvert.proofs.laws.converted_mounts.Goals as goal

pub returns-clause-image : goal.returns-clause-image
returns-clause-image c = converted_is_image

pub returns-clause-mounts : goal.returns-clause-mounts
returns-clause-mounts c = converted_mounts

pub returns-clause-root : goal.returns-clause-root
returns-clause-root c = converted_has_no_root

pub returns-clause-clashes : goal.returns-clause-clashes
returns-clause-clashes c = converted_clashes
