use Rattle.std.proofs.Common.{◌≡◌, rules}
use Rattle.jscan.specs.declared.extent.ExtentKind.TheVariants.{Tiled}
use Rattle.jcalls.proofs.NodesLemmas.{there_is_sighted}
use Rattle.jcalls.proofs.node_row.node_row.Goals as goal

pub seen_row-requires-clause-sighted : goal.seen_row-requires-clause-sighted
seen_row-requires-clause-sighted g c =
    let is : c.args.extent.now.kind ≡ Tiled c.in-Tiled.seen = search rules in
    there_is_sighted g.E.Order.order c.args.geometry.block c.args.image.now c.args.extent.now c.in-Tiled.seen c.requires.there is
