use Rattle.jscan.proofs.FitLaws.{nodes_fit, nodes_writable}
use Rattle.jscan.proofs.laws.nodes_fit.Goals as goal

pub returns-clause-fit : goal.returns-clause-fit
returns-clause-fit c = nodes_fit

pub returns-clause-writable : goal.returns-clause-writable
returns-clause-writable c = nodes_writable
