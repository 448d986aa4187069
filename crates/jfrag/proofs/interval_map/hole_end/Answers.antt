use Rattle.std.proofs.Common.{◌∙◌, sym, ap}
use Rattle.jfrag.specs.IntervalMap.{is_hole}
use Rattle.jfrag.proofs.IntervalMapChanges.{same_interval}
use Rattle.jfrag.proofs.interval_map.hole_end.Goals as goal

pub returns-then-is_hole-clause-holes : goal.returns-then-is_hole-clause-holes
returns-then-is_hole-clause-holes c = λ i from to.
    let same = same_interval c.args.intervals.now c.next_key.ensures.ordered c.args.at c.next_key.result i c.next_key.ensures.none_between from to in
    ap is_hole (same ∙ sym c.interval_at.ensures.interval) ∙ sym c.is_hole.ensures ∙ c.if-is_hole.true
