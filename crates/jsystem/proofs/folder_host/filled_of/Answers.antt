use Rattle.std.proofs.Common.{refl}
use Rattle.jsystem.proofs.folder_host.filled_of.Goals as goal

pub returns-in-Ok-clause-silent : goal.returns-in-Ok-clause-silent
returns-in-Ok-clause-silent c = λ is. rw (c.in-Ok.ensures.silent (c.tells.ensures is)) refl
