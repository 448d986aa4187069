use Rattle.jscan.proofs.ImageLemmas.{at_start}
use Rattle.jscan.proofs.image.ImageExtents.new.Goals as goal

pub returns-clause-extents : goal.returns-clause-extents
returns-clause-extents g c = at_start g.E.Order.order _ c.args.geometry.block c.args.image.now c.new.ensures
