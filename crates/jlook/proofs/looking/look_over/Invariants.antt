use Rattle.std.proofs.Common.{drop}
use Rattle.std.specs.BTreeSet.{contains}
use Rattle.std.specs.Ordering.{nat_cmp}
use Rattle.jlook.proofs.LookLemmas.{Looking}
use Rattle.jlook.proofs.looking.look_over.Given as goal

abbrev pub invariant-loop-tile : goal.invariant-loop-tile
invariant-loop-tile g l =
    Looking (contains nat_cmp l.wanted) g.E.Order.order l.fn.geometry.block l.image (drop l.tile-index l.sighted.tiles.items) l.look l.contents.items
