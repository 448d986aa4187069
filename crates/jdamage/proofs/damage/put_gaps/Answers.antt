use Rattle.std.proofs.Common.{◌≤◌, ℕ, get_or, refl, arith, ◌∙◌, subst}
use Rattle.std.specs.Io.KnownBytes.{Appends}
use Rattle.std.proofs.KnownBytes.{Appends-trans}
use Rattle.jline.proofs.TurnLemmas.{flat_map-next, item_failed}
use Rattle.jgaps.specs.declared.gap.Gap.{Gap}
use Rattle.jdamage.specs.Damage.{gap_text, reached_once}
use Rattle.jdamage.proofs.DamageLemmas.{sum_more}
use Rattle.jdamage.proofs.RoomLemmas.{paths_fit_more}
use Rattle.jdamage.proofs.damage.put_gaps.Goals as goal

pub put_gap-requires-clause-number : goal.put_gap-requires-clause-number
put_gap-requires-clause-number g c = c.requires.files c.loop-gap.gap-index (record { ino = 0; from = 0; to = 0 }) c.loop-gap-test.true

pub put_gap-requires-clause-room : goal.put_gap-requires-clause-room
put_gap-requires-clause-room g c =
    paths_fit_more c.args.ways.now.up.mounted.now.state _ _ _ c.loop-gap.invariant.capacity (c.requires.room c.loop-gap.gap-index (record { ino = 0; from = 0; to = 0 }) c.loop-gap-test.true)

pub overflow_add-count : goal.overflow_add-count
overflow_add-count g c = omega (arith, c.loop-gap.invariant.few, c.in_ok-more.ensures.few, c.loop-gap-test.true, c.loop-gap.end-fits)

pub returns-in_err-more-clause-puts : goal.returns-in_err-more-clause-puts
returns-in_err-more-clause-puts g c =
    let put = c.in_err-more.ensures.puts in
    let before = c.loop-gap.invariant in
    let d : Gap = record { ino = 0; from = 0; to = 0 } in
    let gap = get_or c.args.gaps.now c.loop-gap.gap-index d in
    item_failed (gap_text c.args.ways.now.up.mounted.now.state) c.args.gaps.now c.loop-gap.gap-index d gap _ (g.T.Sink.taken c.loop-gap.sink) _ _ _ _ _
    c.from_residual.ensures.0 c.loop-gap-test.true refl before.put before.failed put.0 put.1

pub loop-gap-preserved : goal.loop-gap-preserved
loop-gap-preserved g c =
    let s = c.args.ways.now.up.mounted.now.state in
    let put = c.in_ok-more.ensures.puts in
    let before = c.loop-gap.invariant in
    let i = c.loop-gap.gap-index in
    let d : Gap = record { ino = 0; from = 0; to = 0 } in
    let gap = get_or c.args.gaps.now i d in
    record {
      put = subst (Appends (g.T.Sink.taken c.args.sink.now) (g.T.Sink.taken c.put_gap.new.sink)) (flat_map-next (gap_text s) c.args.gaps.now i d gap c.loop-gap-test.true refl)
          (Appends-trans _ (g.T.Sink.taken c.loop-gap.sink) _ _ _ before.put put.0);
      failed = put.1 ∙ before.failed;
      count = sum_more (reached_once s) c.args.gaps.now i d gap _ _ c.loop-gap-test.true refl before.count c.in_ok-more.ensures.count;
      few = omega (arith, before.few, c.in_ok-more.ensures.few);
      capacity = omega (arith, before.capacity, c.put_gap.ensures.capacity);
    }
