use Rattle.std.proofs.Common.{subst}
use Rattle.jfrag.specs.Layouts.{IsSoundLayout}
use Rattle.jfrag.proofs.Overwriting.{keeps_covered}
use Rattle.jfrag.proofs.layout.add.Goals as goal

pub returns-in-Map-clause-whole : goal.returns-in-Map-clause-whole
returns-in-Map-clause-whole c = (
  keeps_covered c.overlay_piece.result c.args.piece c.in-Map.intervals.entries c.overlay_piece.new.intervals.entries (subst IsSoundLayout c.in-Map.is c.requires.whole).0 c.requires.fits c.overlay_piece.ensures.overwritten c.overlay_piece.ensures.err,
  c.overlay_piece.ensures.settled,
  c.overlay_piece.ensures.tight,
)
