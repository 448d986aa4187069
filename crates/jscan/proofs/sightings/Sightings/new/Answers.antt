use Rattle.std.proofs.Common.{ap, ◌∙◌}
use Rattle.std.specs.Prelude.{filter_map}
use Rattle.jscan.specs.Extents.{sighted}
use Rattle.jscan.proofs.ImageLemmas.{image_sighted}
use Rattle.jscan.proofs.sightings.Sightings.new.Goals as goal

pub returns-clause-sightings : goal.returns-clause-sightings
returns-clause-sightings g c =
    ap (filter_map sighted) c.in_ok-new.ensures.extents ∙ image_sighted g.E.Order.order c.args.geometry.block c.args.image.now
