use Rattle.jnode.proofs.WeakLemmas.{cut_behind_keeps_header}
use Rattle.jnode.proofs.laws.cut_behind_keeps_header.Goals as goal

pub returns : goal.returns
returns c = cut_behind_keeps_header
