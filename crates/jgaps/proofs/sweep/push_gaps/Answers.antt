use Rattle.std.proofs.Common.{◌++◌, ◌+◌, List, drop, map, subst, sym, ◌∙◌}
use Rattle.std.proofs.lemmas.List.{drop_all}
use Rattle.jgaps.specs.Gaps.{gap_of, gaps_below}
use Rattle.jgaps.specs.Sweeping.{Swept}
use Rattle.jgaps.specs.declared.fields.Stretch.{Stretch}
use Rattle.jgaps.specs.declared.gap.Gap.{Gap}
use Rattle.jgaps.proofs.SweptLemmas.{begin_next, left_next, swept_done, swept_last, swept_start}
use Rattle.jgaps.proofs.sweep.push_gaps.Goals as goal

pub loop-stretch-init : goal.loop-stretch-init
loop-stretch-init c = λ covered cover. swept_start c.args.ino c.args.size covered c.args.ranges.now c.args.gaps.now.items cover

pub loop-stretch-preserved : goal.loop-stretch-preserved
loop-stretch-preserved c = λ covered cover.
    let d : Stretch = record { ino = 0; version = 0; from = 0; to = 0 } in
    let all : List Gap = c.args.gaps.now.items ++ map (gap_of c.args.ino) (gaps_below covered c.args.size) in
    c.in_ok-reach.ensures covered all (drop (c.loop-stretch.stretch-index + 1) c.args.ranges.now)
    (begin_next c.args.ranges.now c.loop-stretch.stretch-index d c.loop-stretch-test.true c.requires)
    (subst (λ (l : List Stretch). Swept c.args.ino c.args.size covered all l c.loop-stretch.gaps.items c.loop-stretch.reach)
    (left_next c.args.ranges.now c.loop-stretch.stretch-index d c.loop-stretch-test.true) (c.loop-stretch.invariant covered cover))

pub returns-in_ok-push : goal.returns-in_ok-push
returns-in_ok-push c = λ covered cover.
    let all : List Gap = c.args.gaps.now.items ++ map (gap_of c.args.ino) (gaps_below covered c.args.size) in
    c.in_ok-push.ensures.items
    ∙ sym (swept_last c.args.ino c.args.size covered all c.loop-stretch.gaps.items c.loop-stretch.reach c.if-reach-size.true
    (subst (λ (l : List Stretch). Swept c.args.ino c.args.size covered all l c.loop-stretch.gaps.items c.loop-stretch.reach)
    (drop_all c.loop-stretch.stretch-index c.args.ranges.now c.loop-stretch-test.false) (c.loop-stretch.invariant covered cover)))

pub returns-else-reach-size : goal.returns-else-reach-size
returns-else-reach-size c = λ covered cover.
    let all : List Gap = c.args.gaps.now.items ++ map (gap_of c.args.ino) (gaps_below covered c.args.size) in
    sym (swept_done c.args.ino c.args.size covered all c.loop-stretch.gaps.items c.loop-stretch.reach c.if-reach-size.false
    (subst (λ (l : List Stretch). Swept c.args.ino c.args.size covered all l c.loop-stretch.gaps.items c.loop-stretch.reach)
    (drop_all c.loop-stretch.stretch-index c.args.ranges.now c.loop-stretch-test.false) (c.loop-stretch.invariant covered cover)))
