use Rattle.std.proofs.Common.{◌∙◌, ◌+◌, ap, sym, arith}
use Rattle.jfrag.specs.Overlays.{byte_at}
use Rattle.jfrag.specs.IntervalMap.{Interval, seen}
use Rattle.jfrag.proofs.Reading.{far_is_bare}
use Rattle.jfrag.proofs.interval_map.read.Goals as goal

pub returns-then-place-from : goal.returns-then-place-from
returns-then-place-from c = λ i l. c.show.ensures i l ∙ ap (λ (r : Interval). byte_at (seen r (c.args.place + i))) (sym (far_is_bare c.args.intervals.now.entries c.requires (c.args.place + i) (omega arith)))
