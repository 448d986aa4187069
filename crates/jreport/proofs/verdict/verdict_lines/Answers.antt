use Rattle.jreport.proofs.verdict.verdict_lines.Goals as goal

pub returns : goal.returns
returns g c = c.put_verdict.ensures g.E.Order.order c.args.geometry.block c.args.image.now c.mount.ensures
