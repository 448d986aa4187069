use Rattle.std.proofs.Common.{refl}
use Rattle.std.specs.Fmt.{digits}
use Rattle.jauto.specs.TakingText.{left_line, taken_line, unclear_line}
use Rattle.jauto.proofs.laws.known_takings.Goals as goal

pub returns-clause-taken_text : goal.returns-clause-taken_text
unfolding digits taken_line
returns-clause-taken_text c = refl

pub returns-clause-left_text : goal.returns-clause-left_text
unfolding digits left_line
returns-clause-left_text c = refl

pub returns-clause-unclear_text : goal.returns-clause-unclear_text
unfolding digits unclear_line
returns-clause-unclear_text c = refl
