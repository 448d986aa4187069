use Rattle.std.proofs.Common.{refl}
use Rattle.jconvert.proofs.CallLemmas.{converted_is}
use Rattle.jconvert.proofs.judging.judge.Goals as goal

pub returns-in-Some-clause-told : goal.returns-in-Some-clause-told
returns-in-Some-clause-told g c =
    converted_is g.E.Order.order c.args.geometry.block c.args.image.now c.in_ok-tally.tally c.in-Some.end
    (record { changed = c.in_ok-tally.tally.changed; nodes = c.in_ok-tally.tally.nodes; bytes = c.from.result })
    c.in_ok-tally.ensures.ok c.in-Some.is refl refl c.from.ensures
