use Rattle.std.proofs.Common.{ap, ◌∙◌}
use Rattle.jmount.specs.Tree.{State, entries_in}
use Rattle.jmount.proofs.stored_tree.StoredTree.entries.Goals as goal

pub returns : goal.returns
returns c = c.of.ensures ∙ ap (λ (s : State). entries_in s c.args.dir) c.self.view_is
