use Rattle.std.proofs.Common.{rules, ◌≡◌, length, ap, arith}
use Rattle.jscan.proofs.ExtentLemmas.{extents_step, extents_end}
use Rattle.jscan.proofs.extents.ExtentsIterator.next.Goals as goal

pub returns-then-is_empty-clause-steps : goal.returns-then-is_empty-clause-steps
returns-then-is_empty-clause-steps g c =
    let empty : length c.args.self.now.rest ≡ 0 = search rules in
    let e = extents_end g.E.Order.order c.args.self.now.start c.args.self.now.place c.args.self.now.rest empty in
    (e, e)

pub returns-clause-steps : goal.returns-clause-steps
returns-clause-steps g c =
    extents_step g.E.Order.order c.args.self.now.start c.args.self.now.place c.args.self.now.rest _ _ _ _ c.first_extent-kind.ensures.extent c.len.ensures c.slice-self.ensures

pub returns-clause-goes : goal.returns-clause-goes
returns-clause-goes g c =
    let e =
    extents_step g.E.Order.order c.args.self.now.start c.args.self.now.place c.args.self.now.rest _ _ _ _ c.first_extent-kind.ensures.extent c.len.ensures c.slice-self.ensures in
    record { on = λ _. (tt, tt, omega (arith, ap length e)); keeps = tt; rests = λ _. tt }
