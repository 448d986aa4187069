use Rattle.jinspects.proofs.verdict.put_verdict.Goals as goal

pub returns-in-Ok : goal.returns-in-Ok
returns-in-Ok g c = c.judge_mounted.ensures g.E.Order.order c.args.geometry.block c.args.image.now c.in-Ok.ensures

pub returns : goal.returns
returns g c = c.judge_refused.ensures g.E.Order.order c.args.geometry.block c.args.shape c.args.image.now c.in-Err.ensures
