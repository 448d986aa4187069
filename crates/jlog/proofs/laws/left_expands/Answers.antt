use Rattle.jlog.proofs.ThroughLemmas.{left_expands, whole_expands, output_expands}
use Rattle.jlog.proofs.laws.left_expands.Goals as goal

pub returns-clause-cut : goal.returns-clause-cut
returns-clause-cut c = left_expands

pub returns-clause-whole : goal.returns-clause-whole
returns-clause-whole c = whole_expands

pub returns-clause-image : goal.returns-clause-image
returns-clause-image c = output_expands
