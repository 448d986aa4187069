use Rattle.std.proofs.Common.{◌∙◌, ap, sym, Some}
use Rattle.jfrag.specs.declared.piece.Piece.{Piece}
use Rattle.jfrag.proofs.IntervalMapChanges.{last_of_range}
use Rattle.jfrag.proofs.interval_map.interval_at.Goals as goal

pub returns-in-Some-default-None-clause-interval : goal.returns-in-Some-default-None-clause-interval
returns-in-Some-default-None-clause-interval c = sym (last_of_range c.args.intervals.now c.range.ensures.ordered c.args.at c.range.result c.next_back.new.self c.in-Some-default-None.field-0-0.now c.in-Some-default-None.field-0-1.now (c.range.ensures.in_range tt) c.in-Some-default-None.ensures.steps ∙ c.in-Some-default-None.field-0-1-is)

pub returns-in-Some-default-Some-clause-interval : goal.returns-in-Some-default-Some-clause-interval
returns-in-Some-default-Some-clause-interval c = ap (λ (p : Piece). Some p) c.copied.ensures ∙ sym (last_of_range c.args.intervals.now c.range.ensures.ordered c.args.at c.range.result c.next_back.new.self c.in-Some-default-Some.field-0-0.now c.in-Some-default-Some.field-0-1.now (c.range.ensures.in_range tt) c.in-Some-default-Some.ensures.steps ∙ c.in-Some-default-Some.field-0-1-is)
