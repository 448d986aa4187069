use Rattle.std.proofs.Common.{◌∙◌}
use Rattle.jinfo.proofs.CensusLemmas.{info_is}
use Rattle.jinfo.proofs.info.info_of.Goals as goal

pub returns : goal.returns
returns c = c.info_by.ensures ∙ info_is c.args.image.now c.census_of.result c.census_of-2.result c.census_of.ensures c.census_of-2.ensures
