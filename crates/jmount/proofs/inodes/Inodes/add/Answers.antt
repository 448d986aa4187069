use Rattle.std.proofs.Common.{◌≡◌, subst, List, Err, OnOk}
use Rattle.jnode.specs.declared.node.InodeNode.{InodeNode}
use Rattle.jname.proofs.ContentsByNameLemmas.{ok_map, ok_both}
use Rattle.jmount.specs.declared.versions.InodeFault.TheVariants.{Clash}
use Rattle.jmount.specs.Clash.{NoInodeClashesWith, SomeInodeClashesWith}
use Rattle.jmount.specs.Inodes.{GainsInode, nodes_of_numbers}
use Rattle.jmount.proofs.InodesLemmas.{gains_one, none_clashes, some_clashes}
use Rattle.jmount.proofs.inodes.Inodes.add.Goals as goal

pub returns-clause-ok : goal.returns-clause-ok
returns-clause-ok c =
    subst (λ (given : List InodeNode). OnOk c.add_node.result (GainsInode given (nodes_of_numbers c.add_node.new.numbers) c.args.node)) c.self.view_is
    (ok_both c.add_node.result (λ more agrees. gains_one c.self.inside.numbers c.add_node.new.numbers c.self.invariant.0 c.add_node.ensures.ordered c.self.invariant.1 c.args.node more agrees)
    c.add_node.ensures.ok c.add_node.ensures.alone)

pub returns-clause-alone : goal.returns-clause-alone
returns-clause-alone c =
    subst (λ (given : List InodeNode). OnOk c.add_node.result (NoInodeClashesWith given c.args.node)) c.self.view_is
    (ok_map c.add_node.result (λ agrees. none_clashes c.self.inside.numbers c.self.invariant.0 c.self.invariant.1 c.args.node agrees) c.add_node.ensures.alone)

pub returns-clause-clash : goal.returns-clause-clash
returns-clause-clash c = λ (refused : c.add_node.result ≡ Err Clash).
    subst (λ (given : List InodeNode). SomeInodeClashesWith given c.args.node) c.self.view_is
    (some_clashes c.self.inside.numbers c.self.invariant.1 c.args.node (c.add_node.ensures.clash refused))
