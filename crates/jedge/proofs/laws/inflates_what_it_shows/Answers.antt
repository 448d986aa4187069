use Rattle.jedge.proofs.InflatingLemmas.{cat_is_as_through, ls_is_as_through}
use Rattle.jedge.proofs.laws.inflates_what_it_shows.Goals as goal

pub returns-clause-ls : goal.returns-clause-ls
returns-clause-ls c = ls_is_as_through

pub returns-clause-cat : goal.returns-clause-cat
returns-clause-cat c = cat_is_as_through
