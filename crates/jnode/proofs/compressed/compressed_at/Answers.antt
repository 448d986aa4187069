use Rattle.std.proofs.Common.{ℕ, List, ap, ◌∙◌}
use Rattle.jnode.specs.Reading.{tile_of}
use Rattle.jnode.specs.Compressed.{compressed_seen}
use Rattle.jnode.proofs.CompressedLemmas.{compressed_reads, compressed_is_seen, none_is_seen}
use Rattle.jnode.proofs.compressed.compressed_at.Goals as goal

pub returns-clause-node : goal.returns-clause-node
returns-clause-node g c =
    compressed_reads g.E.Order.order c.args.bytes.now c.found_in.result c.requires.good c.requires.words
    (c.found_in.ensures ∙ ap (λ (xs : List ℕ). compressed_seen g.E.Order.order (tile_of g.E.Order.order xs)) c.whole.ensures)

pub returns-clause-seen : goal.returns-clause-seen
returns-clause-seen g c =
    compressed_is_seen g.E.Order.order c.args.bytes.now c.found_in.result c.requires.good c.requires.words
    (c.found_in.ensures ∙ ap (λ (xs : List ℕ). compressed_seen g.E.Order.order (tile_of g.E.Order.order xs)) c.whole.ensures)

pub returns-clause-none : goal.returns-clause-none
returns-clause-none g c =
    none_is_seen g.E.Order.order c.args.bytes.now c.found_in.result
    (c.found_in.ensures ∙ ap (λ (xs : List ℕ). compressed_seen g.E.Order.order (tile_of g.E.Order.order xs)) c.whole.ensures)
