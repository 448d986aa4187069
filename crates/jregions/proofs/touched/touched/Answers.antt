use Rattle.std.proofs.Common.{◌≡◌, ◌<◌, ℕ, false, List, length, get_or, replicate, Bool, ◌||◌, ap, ◌∙◌, sym, subst, arith}
use Rattle.std.proofs.lemmas.List.{get_or-replicate, length-replicate}
use Rattle.flashbase.specs.Bytes.{pad4_of}
use Rattle.jnode.specs.Writing.{filled}
use Rattle.jnode.proofs.WritingLemmas.{length-filled}
use Rattle.jscan.specs.Extents.{extents}
use Rattle.jscan.specs.ExtentsLeft.{extents_left}
use Rattle.jscan.specs.declared.extent.Extent.{Extent}
use Rattle.jregions.specs.Units.{reaches_unit, unit_count}
use Rattle.jregions.proofs.TouchedLemmas.{MarksGoOn, marks_begin, marks_next, written_whole}
use Rattle.jregions.proofs.touched.touched.Goals as goal

pub of_part-extent-items-requires-clause-whole_words : goal.of_part-extent-items-requires-clause-whole_words
unfolding pad4_of
of_part-extent-items-requires-clause-whole_words g c =
    let long = ap length c.filled.ensures ∙ length-filled c.args.file.now in
    omega (arith, long)

pub of_part-extent-items-requires-clause-addressed : goal.of_part-extent-items-requires-clause-addressed
unfolding pad4_of
of_part-extent-items-requires-clause-addressed g c =
    let long = ap length c.filled.ensures ∙ length-filled c.args.file.now in
    omega (arith, long, c.requires)

pub loop-extent-init : goal.loop-extent-init
loop-extent-init g c =
    let e = g.E.Order.order in
    let file = c.args.file.now in
    let n = unit_count file in
    let marks = c.in_ok-units.units.items in
    let whole = extents e 0 (filled file) in
    let left = extents_left c.into_iter-extent-iterator.result in
    let begun : left ≡ whole =
    ap extents_left c.into_iter-extent-iterator.ensures.into_iter_gives ∙ c.of_part-extent-items.ensures ∙ ap (extents e 0) c.filled.ensures in
    let unmarked : marks ≡ replicate c.unit_count.result false = c.in_ok-units.ensures.items_if_clones_equal (λ y same. same) in
    let all : marks ≡ replicate n false = unmarked ∙ ap (λ (k : ℕ). replicate k false) c.unit_count.ensures in
    subst (λ (ss : List Extent). MarksGoOn n whole ss marks) (sym begun)
    (marks_begin n whole marks (ap length all ∙ length-replicate n false)
    (λ u in_n. ap (λ (l : List Bool). get_or l u false) all ∙ get_or-replicate n u false false in_n))

pub loop-extent-preserved : goal.loop-extent-preserved
loop-extent-preserved g c =
    let file = c.args.file.now in
    let n = unit_count file in
    let whole = extents g.E.Order.order 0 (filled file) in
    let left = extents_left c.next.new.self in
    let old = c.loop-extent.units in
    let new = c.mark.new.units in
    let here = subst (λ (ss : List Extent). MarksGoOn n whole ss old.items) c.in-Some.ensures.steps c.loop-extent.invariant in
    let long : length new ≡ length old.items = c.mark.ensures.long ∙ ap length c.deref_mut.ensures.value in
    subst (λ (l : List Bool). MarksGoOn n whole left l) (sym (written_whole new old.items old.len long old.ok.0))
    (marks_next n whole left c.in-Some.extent old.items new here long
    (subst (λ (l : List Bool). (u : ℕ) → u < length l → get_or new u false ≡ (get_or l u false || reaches_unit u c.in-Some.extent)) c.deref_mut.ensures.value c.mark.ensures.each))
