use Rattle.std.proofs.Common.{◌≡◌, arith, subst, sym, ap, ◌∙◌, List}
use Rattle.jscan.specs.Extents.{extents}
use Rattle.jscan.specs.ExtentsLeft.{extents_left}
use Rattle.jscan.specs.declared.extent.Extent.{Extent}
use Rattle.jscan.proofs.ExtentLaws.{extents_are_few}
use Rattle.jinfo.specs.Tallies.{no_tally}
use Rattle.jinfo.specs.declared.census.Tally.{Tally}
use Rattle.jinfo.proofs.TallyLemmas.{TallyGoesOn, tally_begins, tally_next, tally_ends, tally_has_room}
use Rattle.jinfo.proofs.census.tally_of.Goals as goal

pub with-tally-requires : goal.with-tally-requires
with-tally-requires g c =
    let e = g.E.Order.order in
    let block = c.args.block.now in
    let few = extents_are_few e 0 block c.requires.whole_words in
    record { room = tally_has_room e block (extents e 0 block) _ c.loop-extent.tally c.loop-extent.invariant (omega (arith, few, c.requires.addressed)) }

pub loop-extent-init : goal.loop-extent-init
loop-extent-init g c =
    let e = g.E.Order.order in
    let block = c.args.block.now in
    let whole = extents e 0 block in
    let left = extents_left c.into_iter-extent-iterator.result in
    let begun : left ≡ whole =
    ap extents_left c.into_iter-extent-iterator.ensures.into_iter_gives ∙ c.of_part-extent-items.ensures ∙ ap (extents e 0) c.copied.ensures in
    subst (λ (t : Tally). TallyGoesOn e block whole left t) (sym c.none-tally.ensures)
    (subst (λ (ss : List Extent). TallyGoesOn e block whole ss no_tally) (sym begun) (tally_begins e block whole))

pub loop-extent-preserved : goal.loop-extent-preserved
loop-extent-preserved g c =
    let e = g.E.Order.order in
    let block = c.args.block.now in
    let whole = extents e 0 block in
    let left = extents_left c.next.new.self in
    let here = subst (λ (ss : List Extent). TallyGoesOn e block whole ss c.loop-extent.tally) c.in-Some.ensures.steps c.loop-extent.invariant in
    tally_next e block whole left c.loop-extent.tally c.in-Some.extent c.with-tally.result here c.with-tally.ensures

pub returns : goal.returns
returns g c =
    let e = g.E.Order.order in
    let block = c.args.block.now in
    let whole = extents e 0 block in
    tally_ends e block whole c.loop-extent.tally
    (subst (λ (ss : List Extent). TallyGoesOn e block whole ss c.loop-extent.tally) c.in-None.ensures.steps.0 c.loop-extent.invariant)
