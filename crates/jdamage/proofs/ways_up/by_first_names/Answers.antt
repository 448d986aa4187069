use Rattle.jdamage.proofs.EnteredLemmas.{first_names_lead}
use Rattle.jdamage.proofs.ways_up.by_first_names.Goals as goal

pub invariant_of-result-clause-leads : goal.invariant_of-result-clause-leads
invariant_of-result-clause-leads c = first_names_lead c.args.mounted.now.state c.requires.single
