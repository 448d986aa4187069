use Rattle.jreport.proofs.verdict.scanned_verdict.Goals as goal

pub returns : goal.returns
returns g c = λ e size scannable scan. c.put_verdict.ensures e size c.args.image.now (c.mount_partial.ensures e size scannable scan)
