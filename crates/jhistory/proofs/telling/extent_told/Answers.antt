use Rattle.std.proofs.Common.{ap, ◌∙◌}
use Rattle.jnode.specs.declared.node.Seen.TheVariants as seen
use Rattle.jscan.specs.declared.extent.ExtentKind.TheVariants.{Tiled}
use Rattle.jhistory.proofs.TellingLemmas.{short_name, sighted_from}
use Rattle.jhistory.proofs.telling.extent_told.Goals as goal

pub entry_told-requires : goal.entry_told-requires
entry_told-requires g c =
    short_name g.E.Order.order c.args.geometry.block c.args.image.now c.args.extent.now c.in-Entry.entry c.requires.readable c.requires.extent (c.in-Tiled.is ∙ ap Tiled c.in-Entry.is)

pub compressed_node-requires-clause-sighted : goal.compressed_node-requires-clause-sighted
compressed_node-requires-clause-sighted g c = (
  c.in-Compressed.compr,
  sighted_from g.E.Order.order c.args.geometry.block c.args.image.now c.args.extent.now (seen.Compressed c.in-Compressed.compr) c.requires.extent (c.in-Tiled.is ∙ ap Tiled c.in-Compressed.is),
)
