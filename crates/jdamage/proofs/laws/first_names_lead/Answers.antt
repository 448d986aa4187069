use Rattle.jdamage.proofs.EnteredLemmas.{first_names_lead}
use Rattle.jdamage.proofs.laws.first_names_lead.Goals as goal

pub returns : goal.returns
returns c = λ s single. first_names_lead s single
