use Rattle.std.proofs.Common.{sym, subst}
use Rattle.jfrag.specs.declared.layout.Layout.{Layout}
use Rattle.jfrag.specs.Layouts.{laid_at, IsSoundLayout}
use Rattle.jfrag.specs.Intervals.{IsIntervalCount}
use Rattle.jfrag.proofs.IntervalsLemmas.{interval_count}
use Rattle.jfrag.proofs.OnePiece.{one_interval}
use Rattle.jfrag.proofs.layout.count.Goals as goal

pub returns-in-One-clause-exact : goal.returns-in-One-clause-exact
returns-in-One-clause-exact c =
    subst (λ (layout : Layout). IsIntervalCount (laid_at layout) 1) (sym c.in-One.is)
    (one_interval c.in-One.field-0 (subst IsSoundLayout c.in-One.is c.requires).0)

pub returns-in-Map-clause-exact : goal.returns-in-Map-clause-exact
returns-in-Map-clause-exact c =
    subst (λ (layout : Layout). IsIntervalCount (laid_at layout) c.count.result) (sym c.in-Map.is)
    (interval_count c.in-Map.intervals c.count.ensures.ordered (subst IsSoundLayout c.in-Map.is c.requires).2 c.count.result c.count.ensures.count)
