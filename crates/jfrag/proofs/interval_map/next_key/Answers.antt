use Rattle.jfrag.proofs.IntervalMapChanges.{before_first}
use Rattle.jfrag.proofs.interval_map.next_key.Goals as goal

pub returns-in-Some-clause-none_between : goal.returns-in-Some-clause-none_between
returns-in-Some-clause-none_between c = before_first c.args.intervals.now c.args.at c.args.end c.range.result c.next.new.self c.in-Some.key.now c.in-Some.field-0-1.now (c.range.ensures.in_range tt) c.in-Some.ensures.steps
