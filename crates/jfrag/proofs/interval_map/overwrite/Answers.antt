use Rattle.std.proofs.Common.{sym, subst, arith, ◌≡◌, ℕ}
use Rattle.std.specs.Prelude.{IsSome}
use Rattle.jfrag.proofs.Overwriting.{OverwrittenBelow, overwritten_all, overwritten_more, overwritten_none, visible_before}
use Rattle.jfrag.specs.Pieces.{end_of}
use Rattle.jfrag.specs.IntervalMap.{interval_at}
use Rattle.jfrag.proofs.Edges.{no_new_more, joined_more, ends_more, not_before, joined_all}
use Rattle.jfrag.proofs.interval_map.overwrite.Goals as goal

pub loop-at-preserved : goal.loop-at-preserved
loop-at-preserved c =
    let inv = c.loop-at.invariant in
    let step = c.overwrite_step.ensures in
    record {
      from_offset = omega (arith, inv.from_offset, step.after);
      up_to_end = step.within;
      so_far = overwritten_more c.args.piece.now c.args.intervals.now c.loop-at.intervals c.overwrite_step.new.intervals step.was_ordered c.loop-at.at c.overwrite_step.result.0 c.overwrite_step.result.1 inv.from_offset step.after (omega (arith, step.within, c.requires.end)) inv.so_far step.one_interval step.won step.overwritten;
      key = λ l _. step.next_key l;
      stop = λ u. subst IsSome (sym (step.others c.args.end (λ e. omega (arith, step.within, step.after)))) (inv.stop u);
      joins = λ w. (omega (arith, inv.from_offset, step.after), visible_before c.args.piece.now c.loop-at.intervals c.overwrite_step.new.intervals c.loop-at.at c.overwrite_step.result.0 c.overwrite_step.result.1 w step.after step.overwritten);
      no_new = λ q h. no_new_more c.loop-at.intervals c.overwrite_step.new.intervals c.loop-at.at q step.others step.no_new (inv.no_new q h);
      joined = joined_more c.args.piece.now c.args.intervals.now c.loop-at.intervals c.overwrite_step.new.intervals c.loop-at.at c.overwrite_step.result.0 c.loop-at.joined c.overwrite_step.result.1 inv.so_far step.won step.one_interval step.others step.removed inv.ends inv.joined;
      ends = ends_more c.args.piece.now c.args.intervals.now c.loop-at.intervals c.loop-at.at c.overwrite_step.result.0 c.overwrite_step.result.1 step.was_ordered inv.so_far step.after step.won step.one_interval;
      ordered = λ _. step.ordered;
      few = omega (arith, inv.few, step.len);
    }

pub loop-at-init : goal.loop-at-init
loop-at-init c = record {
  from_offset = omega arith;
  up_to_end = omega (arith, c.requires.room);
  so_far = λ i. overwritten_none c.args.piece.now i (interval_at c.args.intervals.now.entries i);
  key = λ _. c.requires.start;
  stop = c.requires.stop;
  joins = λ e. cc;
  no_new = λ q h. h;
  joined = λ k l a b. not_before c.args.piece.now c.args.intervals.now.entries k (omega arith) a;
  ends = λ k e a. not_before c.args.piece.now c.args.intervals.now.entries k (omega arith) a;
  ordered = λ l. absurd (omega arith);
  few = omega arith;
}

pub returns-clause-overwritten : goal.returns-clause-overwritten
returns-clause-overwritten c =
    let at_end : c.loop-at.at ≡ end_of c.args.piece.now = omega (arith, c.requires.end, c.loop-at-test.false, c.loop-at.invariant.up_to_end) in
    overwritten_all c.args.piece.now c.args.intervals.now c.loop-at.intervals (subst (λ (at : ℕ). OverwrittenBelow c.args.piece.now at c.args.intervals.now c.loop-at.intervals) at_end c.loop-at.invariant.so_far)

pub returns-clause-joined : goal.returns-clause-joined
returns-clause-joined c = joined_all c.args.piece.now c.args.intervals.now c.loop-at.intervals c.loop-at.at (omega (arith, c.requires.end, c.loop-at-test.false)) c.loop-at.invariant.joined
