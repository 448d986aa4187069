use Rattle.std.proofs.Common.{ap, ◌∙◌}
use Rattle.jmount.specs.Tree.{State, all_entries}
use Rattle.jmount.proofs.stored_tree.StoredTree.names.Goals as goal

pub returns : goal.returns
returns c = c.all.ensures ∙ ap (λ (s : State). all_entries s) c.self.view_is
