use Rattle.std.proofs.Common.{refl}
use Rattle.std.specs.Fmt.{digits}
use Rattle.jline.specs.Words.{hex}
use Rattle.jcuts.proofs.examples.written_is_told.Goals as goal

pub returns-clause-erased : goal.returns-clause-erased
unfolding digits hex
returns-clause-erased c = refl

pub returns-clause-line : goal.returns-clause-line
unfolding digits hex
returns-clause-line c = refl

pub returns-clause-weak : goal.returns-clause-weak
unfolding digits hex
returns-clause-weak c = refl

pub returns-clause-note : goal.returns-clause-note
unfolding digits hex
returns-clause-note c = refl
