use Rattle.std.proofs.Common.{arith, ap₂, ◌∙◌}
use Rattle.std.specs.Prelude.{◌+◌}
use Rattle.jreport.proofs.NoNodesLemmas.{all_others}
use Rattle.jreport.proofs.no_nodes.other_count.Goals as goal

pub returns : goal.returns
returns c = λ e none. ap₂ (λ m n. m + n) c.node_count.ensures.count c.node_count-2.ensures.count ∙ all_others e c.args.geometry.block c.args.image.now none.none
