use Rattle.std.proofs.Common.{◌∙◌}
use Rattle.jmap.proofs.KindLemmas.{search_is}
use Rattle.jmap.proofs.kind.is_kept.Goals as goal

pub returns : goal.returns
returns c = c.is_ok.ensures.value ∙ search_is c.args.kept.now c.args.addr c.binary_search.result c.requires c.binary_search.ensures.position
