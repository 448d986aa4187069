use Rattle.jscan.proofs.TilingLaws.{exists, only}
use Rattle.jscan.proofs.laws.one_tiling.Goals as goal

pub returns-clause-exists : goal.returns-clause-exists
returns-clause-exists c = exists

pub returns-clause-only : goal.returns-clause-only
returns-clause-only c = only
