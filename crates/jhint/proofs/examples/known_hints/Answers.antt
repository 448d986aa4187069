use Rattle.std.proofs.Common.{refl}
use Rattle.std.specs.Fmt.{digits}
use Rattle.jhint.specs.Hints.{hint_line}
use Rattle.jhint.proofs.examples.known_hints.Goals as goal

pub returns-clause-text : goal.returns-clause-text
unfolding digits hint_line
returns-clause-text c = refl
