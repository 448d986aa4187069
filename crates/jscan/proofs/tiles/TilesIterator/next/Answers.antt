use Rattle.std.proofs.Common.{length, ap, arith}
use Rattle.jscan.proofs.FrontLemmas.{tiling_step}
use Rattle.jscan.proofs.tiles.TilesIterator.next.Goals as goal

pub returns-clause-steps : goal.returns-clause-steps
returns-clause-steps g c =
    let front = c.front_of-kind.ensures in
    tiling_step g.E.Order.order c.args.self.now.block.now c.args.self.now.place c.front_of-kind.result.1 c.front_of-kind.result.0 front.tile front.nonempty front.within

pub returns-clause-goes : goal.returns-clause-goes
returns-clause-goes g c =
    let front = c.front_of-kind.ensures in
    let e = tiling_step g.E.Order.order c.args.self.now.block.now c.args.self.now.place c.front_of-kind.result.1 c.front_of-kind.result.0 front.tile front.nonempty front.within in
    record { on = λ _. (tt, tt, omega (arith, ap length e)); keeps = tt; rests = λ _. tt }
