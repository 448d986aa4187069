use Rattle.jscan.proofs.RunLaws as laws
use Rattle.jscan.proofs.laws.extents_are_tiles.Goals as goal

pub returns-clause-tiles : goal.returns-clause-tiles
returns-clause-tiles c = laws.extents_are_tiles

pub returns-clause-erased : goal.returns-clause-erased
returns-clause-erased c = laws.erased_runs_are_erased
