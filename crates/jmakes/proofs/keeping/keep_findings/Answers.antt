use Rattle.jedge.proofs.Steps.{answered, then_ok}
use Rattle.jmakes.proofs.keeping.keep_findings.Goals as goal

pub returns : goal.returns
returns g c = then_ok c.is_one_file-over.ensures (answered c.judge_findings.ensures)
