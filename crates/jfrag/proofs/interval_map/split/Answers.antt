use Rattle.std.proofs.Common.{◌≡◌, None, rules}
use Rattle.std.specs.Ordering.{nat_cmp}
use Rattle.std.specs.BTreeMap.{get}
use Rattle.jfrag.proofs.IntervalMapChanges.{split_same}
use Rattle.jfrag.proofs.interval_map.split.Goals as goal

pub returns-clause-same : goal.returns-clause-same
returns-clause-same c =
    let absent : get nat_cmp c.args.intervals.now c.args.at ≡ None = search rules in
    split_same c.args.intervals.now c.insert.new.self c.args.at c.interval_at-interval.result c.in_ok-insert.ensures.was_ordered c.in_ok-insert.ensures.ordered c.in_ok-insert.ensures.updates absent c.interval_at-interval.ensures.interval
