use Rattle.jfolder.proofs.ReasonLemmas.{no_slash}
use Rattle.jfolder.proofs.reading.inside.Goals as goal

pub returns-clause-none : goal.returns-clause-none
returns-clause-none c = no_slash c.args.path.now c.strip_prefix.result _ c.strip_prefix.ensures.cases
