use Rattle.std.proofs.Common.{refl}
use Rattle.std.specs.Fmt.{digits}
use Rattle.jline.specs.Words.{hex}
use Rattle.jcuts.proofs.examples.made_is_told.Goals as goal

pub returns-clause-inode : goal.returns-clause-inode
unfolding digits hex
returns-clause-inode c = refl

pub returns-clause-entry : goal.returns-clause-entry
unfolding digits hex
returns-clause-entry c = refl

pub returns-clause-end : goal.returns-clause-end
unfolding digits hex
returns-clause-end c = refl
