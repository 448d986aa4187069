use Rattle.std.proofs.Common.{ℕ, List, ap, ◌∙◌}
use Rattle.jnode.specs.Reading.{seen_of, tile_of}
use Rattle.jnode.proofs.ReadingLemmas.{read_entry, read_inode, read_compressed}
use Rattle.jnode.proofs.reading.read_node.Goals as goal

pub returns-clause-entry : goal.returns-clause-entry
returns-clause-entry g c =
    read_entry g.E.Order.order c.args.bytes.now c.rest_seen.result c.requires.good c.requires.words (c.rest_seen.ensures ∙ ap (λ (xs : List ℕ). seen_of g.E.Order.order (tile_of g.E.Order.order xs)) c.whole.ensures)

pub returns-clause-inode : goal.returns-clause-inode
returns-clause-inode g c =
    read_inode g.E.Order.order c.args.bytes.now c.rest_seen.result c.requires.good c.requires.words (c.rest_seen.ensures ∙ ap (λ (xs : List ℕ). seen_of g.E.Order.order (tile_of g.E.Order.order xs)) c.whole.ensures)

pub returns-clause-compressed : goal.returns-clause-compressed
returns-clause-compressed g c =
    read_compressed g.E.Order.order c.args.bytes.now c.rest_seen.result c.requires.good c.requires.words (c.rest_seen.ensures ∙ ap (λ (xs : List ℕ). seen_of g.E.Order.order (tile_of g.E.Order.order xs)) c.whole.ensures)
