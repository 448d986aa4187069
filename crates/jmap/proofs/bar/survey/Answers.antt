use Rattle.std.proofs.Common.{ℕ, ◌+◌, List, ◌++◌, length, replicate, [], ◌∷◌, sym, ap, arith, ◌∙◌}
use Rattle.jscan.specs.Extents.{extents}
use Rattle.jscan.specs.ExtentsLeft.{extents_left}
use Rattle.jscan.specs.declared.extent.Extent.{Extent}
use Rattle.jmap.specs.ByteKinds.{byte_kind, byte_kinds, tally_of}
use Rattle.jmap.specs.declared.kind.ByteKind.{ByteKind}
use Rattle.jmap.proofs.BarLemmas.{bar_upto, bar_next, bar_short, bar_whole, decided_most}
use Rattle.jmap.proofs.TallyLemmas.{kinds_more, kinds_more_long, kinds_of_block, kinds_within}
use Rattle.jmap.proofs.TurnLemmas.{turn, all_given}
use Rattle.jmap.proofs.bar.survey.Goals as goal

pub add-requires : goal.add-requires
add-requires g c =
    let all = extents g.E.Order.order c.args.start c.args.block in
    let xs = c.loop-extent.yielded in
    let here = turn extents_left _ _ c.next.new.self all xs _ c.in-Some.extent
    (ap extents_left c.into_iter-extent-iterator.ensures.into_iter_gives ∙ c.of_part-extent-items.ensures) c.loop-extent.yielded_by c.in-Some.is c.next.ensures.steps in
    let within = kinds_within g.E.Order.order c.args.start c.args.block c.args.kept.now xs here.rest c.in-Some.extent here.split in
    record { room = (byte_kinds c.args.kept.now xs, c.loop-extent.invariant.tally, omega (arith, within, c.requires.addressed)) }

pub overflow_add-done : goal.overflow_add-done
overflow_add-done g c =
    let all = extents g.E.Order.order c.args.start c.args.block in
    let xs = c.loop-extent.yielded in
    let here = turn extents_left _ _ c.next.new.self all xs _ c.in-Some.extent
    (ap extents_left c.into_iter-extent-iterator.ensures.into_iter_gives ∙ c.of_part-extent-items.ensures) c.loop-extent.yielded_by c.in-Some.is c.next.ensures.steps in
    let within = kinds_within g.E.Order.order c.args.start c.args.block c.args.kept.now xs here.rest c.in-Some.extent here.split in
    omega (arith, within, c.loop-extent.invariant.done, c.requires.addressed)

pub overflow_mul-done : goal.overflow_mul-done
overflow_mul-done g c =
    let all = extents g.E.Order.order c.args.start c.args.block in
    let xs = c.loop-extent.yielded in
    let here = turn extents_left _ _ c.next.new.self all xs _ c.in-Some.extent
    (ap extents_left c.into_iter-extent-iterator.ensures.into_iter_gives ∙ c.of_part-extent-items.ensures) c.loop-extent.yielded_by c.in-Some.is c.next.ensures.steps in
    let within = kinds_within g.E.Order.order c.args.start c.args.block c.args.kept.now xs here.rest c.in-Some.extent here.split in
    omega (arith, within, c.loop-extent.invariant.done, c.requires.addressed)

pub fill-requires-clause-upto : goal.fill-requires-clause-upto
fill-requires-clause-upto g c =
    let all = extents g.E.Order.order c.args.start c.args.block in
    let xs = c.loop-extent.yielded in
    let here = turn extents_left _ _ c.next.new.self all xs _ c.in-Some.extent
    (ap extents_left c.into_iter-extent-iterator.ensures.into_iter_gives ∙ c.of_part-extent-items.ensures) c.loop-extent.yielded_by c.in-Some.is c.next.ensures.steps in
    let within = kinds_within g.E.Order.order c.args.start c.args.block c.args.kept.now xs here.rest c.in-Some.extent here.split in
    decided_most c.len-size.result (c.loop-extent.done + c.in-Some.extent.len) (omega (arith, c.requires.some, c.len-size.ensures))
    (omega (arith, within, c.loop-extent.invariant.done, c.len-size.ensures))

pub fill-requires-clause-room : goal.fill-requires-clause-room
fill-requires-clause-room g c =
    let all = extents g.E.Order.order c.args.start c.args.block in
    let xs = c.loop-extent.yielded in
    let here = turn extents_left _ _ c.next.new.self all xs _ c.in-Some.extent
    (ap extents_left c.into_iter-extent-iterator.ensures.into_iter_gives ∙ c.of_part-extent-items.ensures) c.loop-extent.yielded_by c.in-Some.is c.next.ensures.steps in
    let within = kinds_within g.E.Order.order c.args.start c.args.block c.args.kept.now xs here.rest c.in-Some.extent here.split in
    bar_short c.len-size.result (byte_kinds c.args.kept.now xs) c.loop-extent.bar (omega (arith, c.requires.some, c.len-size.ensures))
    (omega (arith, within, c.len-size.ensures)) c.loop-extent.invariant.bar

pub loop-extent-preserved : goal.loop-extent-preserved
loop-extent-preserved g c =
    let kept = c.args.kept.now in
    let xs = c.loop-extent.yielded in
    let x = c.in-Some.extent in
    let before = c.loop-extent.invariant in
    let more = kinds_more kept xs x in
    let kind = c.byte_kind-kind.result in
    let same = ap (λ (k : ByteKind). tally_of (byte_kinds kept xs ++ replicate x.len k)) c.byte_kind-kind.ensures in
    record {
      tally = c.add.ensures (byte_kinds kept xs) before.tally ∙ same ∙ ap tally_of (sym more);
      done = ap (λ (n : ℕ). n + x.len) before.done ∙ sym (kinds_more_long kept xs x);
      bar = bar_next c.len-size.result c.loop-extent.done x.len (byte_kinds kept xs) (byte_kinds kept (xs ++ x ∷ [])) kind (byte_kind kept x) c.loop-extent.bar c.fill.new.bar
          (omega (arith, c.requires.some, c.len-size.ensures)) before.done before.bar c.byte_kind-kind.ensures more c.fill.ensures;
    }

pub returns-clause-bar : goal.returns-clause-bar
returns-clause-bar g c =
    let e = g.E.Order.order in
    let kept = c.args.kept.now in
    let all = extents e c.args.start c.args.block in
    let given = all_given extents_left _ _ c.next.new.self all c.loop-extent.yielded _
    (ap extents_left c.into_iter-extent-iterator.ensures.into_iter_gives ∙ c.of_part-extent-items.ensures) c.loop-extent.yielded_by c.in-None.is c.next.ensures.steps in
    c.loop-extent.invariant.bar
    ∙ ap (λ (n : ℕ). bar_upto n (byte_kinds kept c.loop-extent.yielded)) c.len-size.ensures
    ∙ ap (λ (ss : List Extent). bar_upto (length c.args.block) (byte_kinds kept ss)) given
    ∙ bar_whole (length c.args.block) (byte_kinds kept all) c.requires.some (kinds_of_block e c.args.start c.args.block kept)
