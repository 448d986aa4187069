use Rattle.jlog.proofs.SessionAsLemmas.{unpacked_applies, unpacked_runs, unpacked_may_pack}
use Rattle.jlog.proofs.laws.unpacked_is_as_ever.Goals as goal

pub returns-clause-applies : goal.returns-clause-applies
returns-clause-applies c = unpacked_applies

pub returns-clause-runs : goal.returns-clause-runs
returns-clause-runs c = unpacked_runs

pub returns-clause-may : goal.returns-clause-may
returns-clause-may c = unpacked_may_pack
