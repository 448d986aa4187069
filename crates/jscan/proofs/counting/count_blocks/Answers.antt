use Rattle.std.proofs.Common.{Ok, refl, ap, subst, ◌∙◌}
use Rattle.jscan.specs.Stream.{Gives, source_of}
use Rattle.jscan.proofs.StreamCounts.{all_given, all_within, scanning_end, scanning_next, scanning_start}
use Rattle.jscan.proofs.counting.count_blocks.Goals as goal

pub loop-block-init : goal.loop-block-init
loop-block-init g c =
    let a = c.args in
    scanning_start g.E.Order.order (source_of a.reader.now) a.geometry.block a.counts.now a.reader.now c.requires.uncounted c.requires.start refl

pub loop-block-preserved : goal.loop-block-preserved
loop-block-preserved g c =
    let gives = subst (Gives c.loop-block.reader c.next.follows.lender-at-none) (c.in_ok-block.was ∙ ap Ok c.in-Some.is) c.next.follows.holds-at-none in
    scanning_next _ _ _ _ _ _ _ _ _ c.loop-block.invariant gives c.add_block.ensures

-- the reader gave no block, so it has given all
pub returns-clause-all : goal.returns-clause-all
returns-clause-all g c =
    let gives = subst (Gives c.loop-block.reader c.next.follows.lender-at-none) (c.in_ok-block.was ∙ ap Ok c.in_default.is) c.next.follows.holds-at-none in
    all_given _ _ _ (scanning_end _ _ _ _ _ _ _ c.loop-block.invariant gives)

pub returns-clause-within : goal.returns-clause-within
returns-clause-within g c =
    let gives = subst (Gives c.loop-block.reader c.next.follows.lender-at-none) (c.in_ok-block.was ∙ ap Ok c.in_default.is) c.next.follows.holds-at-none in
    all_within _ _ _ (scanning_end _ _ _ _ _ _ _ c.loop-block.invariant gives)
