use Rattle.std.proofs.Common.{Contains, sym, subst}
use Rattle.jnode.specs.declared.node.Seen.{Seen}
use Rattle.jscan.specs.Image.{sightings}
use Rattle.jlook.proofs.looking.judge_tile.Goals as goal

pub expanded_len-requires-clause-sighted : goal.expanded_len-requires-clause-sighted
expanded_len-requires-clause-sighted g c =
    subst (λ (w : Seen). Contains (sightings g.E.Order.order c.args.geometry.block c.args.image.now) (c.args.addr, w)) (sym c.in-Compressed.is)
    (c.requires.sighted c.in-Compressed.compr c.in-Compressed.is)
