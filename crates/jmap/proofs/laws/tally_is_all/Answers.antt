use Rattle.std.proofs.Common.{◌∙◌}
use Rattle.jscan.specs.Counts.{extents_of_block}
use Rattle.jmap.specs.ByteKinds.{byte_kinds}
use Rattle.jmap.proofs.TallyLemmas.{tally_sum, kinds_of_image_block}
use Rattle.jmap.proofs.laws.tally_is_all.Goals as goal

pub returns-clause-kinds : goal.returns-clause-kinds
returns-clause-kinds c = kinds_of_image_block

pub returns-clause-tally : goal.returns-clause-tally
returns-clause-tally c = λ e size image kept k.
    tally_sum (byte_kinds kept (extents_of_block e size image k)) ∙ kinds_of_image_block e size image kept k
